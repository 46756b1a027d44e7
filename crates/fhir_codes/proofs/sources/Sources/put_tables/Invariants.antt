use Rattle.std.proofs.Common.{◌≡◌, ◌++◌, map, take}
use Rattle.fhir_codes.specs.Tables.{table_at}
use Rattle.fhir_codes.proofs.sources.Sources.put_tables.Given as goal

abbrev pub invariant-loop-number : goal.invariant-loop-number
invariant-loop-number l = l.out.items ≡ l.initial.out.items ++ map (table_at l.self.tables) (take l.number-index l.numbers)
