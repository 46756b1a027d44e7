use Rattle.std.proofs.Common.{◌∙◌, ap, sym, rules}
use Rattle.std.proofs.lemmas.Fn.{dedup_same}
use Rattle.std.proofs.lemmas.List.Sorted.{answers_always, ranks_by, list_any-IsPermutation}
use Rattle.std.specs.Ordering.{is_lt}
use Rattle.fhir_codes.specs.Concepts.{concept_cmp}
use Rattle.fhir_codes.proofs.Members.{concept_total, deduped_any, deduped_sorted, list_set, set_of, same}
use Rattle.fhir_codes.proofs.concept_set.ConceptSet.of.Goals as goal

pub invariant_of-result : goal.invariant_of-result
invariant_of-result c =
    rw (c.in_ok-table.ensures, dedup_same _ same _ (λ x y b f' x' y' k. search rules) _ _ c.dedup_by.ensures.filtered)
    (deduped_sorted _ (c.sort_unstable_by.ensures.sorted (λ x y. is_lt (concept_cmp x y)) (ranks_by concept_total (λ x. x)) (answers_always _ _ _ (λ f a r g called. search rules))))

pub returns : goal.returns
returns c =
    ap set_of (c.in_ok-table.ensures ∙ dedup_same _ same _ (λ x y b f' x' y' k. search rules) _ _ c.dedup_by.ensures.filtered)
    ∙ list_set _ _ (λ x. deduped_any _ x ∙ sym (list_any-IsPermutation (same x) _ _ c.sort_unstable_by.ensures.permutation))
