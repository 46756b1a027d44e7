use Rattle.std.proofs.Common.{◌≡◌, ◌-◌, length}
use Rattle.fhir_codes.specs.Filled.{AreFilled, found_count}
use Rattle.fhir_codes.specs.Tables.{found}
use Rattle.fhir_codes.proofs.sources.Sources.expand_all.Given as goal

abbrev pub invariant-loop-place : goal.invariant-loop-place
invariant-loop-place l = record {
  definitions : l.self.definitions ≡ l.fn.self.definitions;
  filled : AreFilled l.fn.self.definitions (found l.self);
}

abbrev pub decreases-loop-place : goal.decreases-loop-place
decreases-loop-place l = length l.fn.self.definitions.value_sets - found_count (found l.self)
