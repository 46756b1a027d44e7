use Rattle.std.proofs.Common.{◌∙◌}
use Rattle.std.specs.FinSet as set
use Rattle.fhir_codes.proofs.Firsts.{some_passes, first_is}
use Rattle.fhir_codes.proofs.concept_set.ConceptSet.first_common.Goals as goal

pub returns-clause-some : goal.returns-clause-some
returns-clause-some c =
    rw (← c.self.view_is, ← c.as_slice.ensures.value)
    (some_passes _ _ c.as_slice.result.now c.parts.result (c.parts.ensures ∙ c.first_common.ensures))

pub returns-clause-found : goal.returns-clause-found
returns-clause-found c =
    rw (← c.self.view_is, ← c.as_slice.ensures.value)
    (first_is _ (set.contains c.args.other.now) c.as_slice.result.now c.parts.result (c.parts.ensures ∙ c.first_common.ensures))
