use Rattle.std.proofs.Common.{◌∙◌, [], sym, rules}
use Rattle.std.proofs.lemmas.Fn.{always_returns_same}
use Rattle.fhir_codes.specs.Concepts.{Concept, concept}
use Rattle.fhir_codes.proofs.Members.{code_cmp, code_total, any_by_code, sorted_by_code, has_code-list}
use Rattle.fhir_codes.proofs.Searching.{searched_by}
use Rattle.fhir_codes.proofs.concept_set.ConceptSet.contains_code.Goals as goal

pub returns : goal.returns
returns c =
    let facts = c.binary_search_by.ensures in
    let x : Concept = concept [] c.args.code.now in
    let found = facts.position (λ y. code_cmp y x) (always_returns_same _ _ _ (λ a r g called. search rules)) in
    rw (← c.self.view_is, ← c.as_slice.ensures.value)
    (c.is_ok.ensures.value
    ∙ searched_by code_total c.as_slice.result.now x c.binary_search_by.result facts.bound found (sorted_by_code _ (rw c.as_slice.ensures.value c.self.invariant))
    ∙ any_by_code c.args.code.now c.as_slice.result.now
    ∙ sym (has_code-list c.args.code.now c.as_slice.result.now))
