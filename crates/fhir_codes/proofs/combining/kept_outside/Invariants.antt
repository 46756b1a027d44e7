use Rattle.std.proofs.Common.{◌≡◌, filter, not, take}
use Rattle.std.specs.FinSet as set
use Rattle.fhir_codes.proofs.combining.kept_outside.Given as goal

abbrev pub invariant-loop-concept : goal.invariant-loop-concept
invariant-loop-concept l = l.kept.items ≡ filter (λ c. not (set.contains l.less c)) (take l.concept-index l.concepts)
