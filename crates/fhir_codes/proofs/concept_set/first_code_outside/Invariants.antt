use Rattle.std.proofs.Common.{◌≡◌, drop, not}
use Rattle.std.specs.List.{find}
use Rattle.fhir_codes.specs.Concepts.{has_code}
use Rattle.fhir_codes.proofs.concept_set.first_code_outside.Given as goal

abbrev pub invariant-loop-concept : goal.invariant-loop-concept
invariant-loop-concept l = find (λ c. not (has_code c.code l.other)) (drop l.concept-index l.concepts) ≡ find (λ c. not (has_code c.code l.other)) l.concepts
