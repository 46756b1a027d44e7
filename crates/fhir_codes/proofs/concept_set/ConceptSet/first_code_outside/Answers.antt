use Rattle.std.proofs.Common.{◌∙◌}
use Rattle.fhir_codes.specs.Concepts.{has_code}
use Rattle.fhir_codes.proofs.Firsts.{some_passes, outside_is}
use Rattle.fhir_codes.proofs.concept_set.ConceptSet.first_code_outside.Goals as goal

pub returns-clause-some : goal.returns-clause-some
returns-clause-some c =
    rw (← c.self.view_is, ← c.as_slice.ensures.value)
    (some_passes _ _ c.as_slice.result.now c.parts.result (c.parts.ensures ∙ c.first_code_outside.ensures))

pub returns-clause-found : goal.returns-clause-found
returns-clause-found c =
    rw (← c.self.view_is, ← c.as_slice.ensures.value)
    (outside_is _ (λ x. has_code x.code c.args.other.now) c.as_slice.result.now c.parts.result (c.parts.ensures ∙ c.first_code_outside.ensures))
