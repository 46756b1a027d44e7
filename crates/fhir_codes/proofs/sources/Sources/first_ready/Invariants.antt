use Rattle.std.proofs.Common.{◌≡◌, ◌<◌, ℕ, false}
use Rattle.fhir_codes.specs.Filled.{is_ready}
use Rattle.fhir_codes.specs.Tables.{found}
use Rattle.fhir_codes.proofs.sources.Sources.first_ready.Given as goal

abbrev pub invariant-loop-place : goal.invariant-loop-place
invariant-loop-place l = (k : ℕ) → k < l.place → is_ready l.self.definitions (found l.self) k ≡ false
