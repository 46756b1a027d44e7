use Rattle.std.proofs.Common.{◌∙◌}
use Rattle.std.specs.FinSet as set
use Rattle.fhir_codes.proofs.Firsts.{none_outside, outside_is}
use Rattle.fhir_codes.proofs.concept_set.ConceptSet.first_outside.Goals as goal

pub returns-clause-none : goal.returns-clause-none
returns-clause-none c =
    rw (← c.self.view_is, ← c.as_slice.ensures.value)
    (none_outside _ c.args.other.now c.as_slice.result.now c.parts.result (c.parts.ensures ∙ c.first_outside.ensures))

pub returns-clause-found : goal.returns-clause-found
returns-clause-found c =
    rw (← c.self.view_is, ← c.as_slice.ensures.value)
    (outside_is _ (set.contains c.args.other.now) c.as_slice.result.now c.parts.result (c.parts.ensures ∙ c.first_outside.ensures))
