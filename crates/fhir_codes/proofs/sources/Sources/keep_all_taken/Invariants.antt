use Rattle.std.proofs.Common.{◌≡◌}
use Rattle.fhir_codes.specs.Tables.{found}
use Rattle.fhir_codes.proofs.sources.Sources.keep_all_taken.Given as goal

abbrev pub invariant-loop-include : goal.invariant-loop-include
invariant-loop-include l = record { definitions : l.self.definitions ≡ l.initial.self.definitions; found : found l.self ≡ found l.initial.self }
