use Rattle.std.proofs.Common.{◌≡◌, drop, not}
use Rattle.std.specs.List.{find}
use Rattle.std.specs.FinSet as set
use Rattle.fhir_codes.proofs.concept_set.first_outside.Given as goal

abbrev pub invariant-loop-concept : goal.invariant-loop-concept
invariant-loop-concept l = find (λ c. not (set.contains l.other c)) (drop l.concept-index l.concepts) ≡ find (λ c. not (set.contains l.other c)) l.concepts
