use Rattle.std.proofs.Common.{◌∙◌, rules}
use Rattle.std.proofs.lemmas.Fn.{always_returns_same}
use Rattle.fhir_codes.specs.Concepts.{Concept, concept, concept_cmp}
use Rattle.fhir_codes.proofs.Members.{concept_total}
use Rattle.fhir_codes.proofs.Searching.{searched_by}
use Rattle.fhir_codes.proofs.concept_set.search.Goals as goal

pub returns : goal.returns
returns c =
    let facts = c.binary_search_by.ensures in
    let x : Concept = concept c.args.system.now c.args.code.now in
    let found = facts.position (λ y. concept_cmp y x) (always_returns_same _ _ _ (λ a r g called. search rules)) in
    c.ok.ensures.variant ∙ searched_by concept_total c.args.concepts.now x c.binary_search_by.result facts.bound found c.requires
