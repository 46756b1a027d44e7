use Rattle.std.proofs.Common.{◌∙◌}
use Rattle.fhir_codes.proofs.Members.{subset-list}
use Rattle.fhir_codes.proofs.concept_set.ConceptSet.is_subset.Goals as goal

pub returns : goal.returns
returns c = rw (← c.self.view_is, ← c.as_slice.ensures.value) (c.all_in.ensures ∙ subset-list c.as_slice.result.now c.args.other.now)
