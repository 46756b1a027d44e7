use Rattle.std.proofs.Common.{◌≡◌}
use Rattle.fhir_codes.specs.Tables.{found}
use Rattle.fhir_codes.proofs.sources.Sources.keep_wholes.Given as goal

abbrev pub invariant-loop-place : goal.invariant-loop-place
invariant-loop-place l = record { definitions : l.self.definitions ≡ l.initial.self.definitions; found : found l.self ≡ found l.initial.self }
