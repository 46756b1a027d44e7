use Rattle.std.proofs.Common.{◌∙◌, sym}
use Rattle.fhir_codes.specs.Concepts.{concept}
use Rattle.fhir_codes.proofs.Members.{has-list}
use Rattle.fhir_codes.proofs.concept_set.ConceptSet.contains.Goals as goal

pub returns : goal.returns
returns c =
    rw (← c.self.view_is, ← c.as_slice.ensures.value)
    (c.is_some.ensures ∙ c.search.ensures ∙ sym (has-list c.as_slice.result.now (concept c.args.system.now c.args.code.now)))
