use Rattle.std.proofs.Common.{◌≡◌}
use Rattle.fhir_codes.specs.Filled.{AreFilled}
use Rattle.fhir_codes.specs.Tables.{found}
use Rattle.fhir_codes.proofs.sources.Sources.fill_along.Given as goal

abbrev pub invariant-loop-place : goal.invariant-loop-place
invariant-loop-place l = record {
  definitions : l.self.definitions ≡ l.initial.self.definitions;
  keeps : AreFilled l.initial.self.definitions (found l.initial.self) → AreFilled l.initial.self.definitions (found l.self);
}
