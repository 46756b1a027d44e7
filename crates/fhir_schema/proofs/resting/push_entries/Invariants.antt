use Rattle.std.proofs.Common.{◌≡◌, ◌++◌, take}
use Rattle.std.specs.List.{flat_map}
use Rattle.fhir_schema.specs.Resting.{entry_rests_on}
use Rattle.fhir_schema.proofs.resting.push_entries.Given as goal

abbrev pub invariant-loop-entry : goal.invariant-loop-entry
invariant-loop-entry l = l.places.items ≡ l.initial.places.items ++ flat_map (entry_rests_on l.table) (take l.entry-index l.entries)
