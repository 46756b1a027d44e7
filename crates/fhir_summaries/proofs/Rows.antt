-- The summary of a node among those of all nodes.
use Rattle.std.proofs.Common.{◌≡◌, ℕ, ◌<◌, ◌≤◌, List, [], length, map, get_or, refl, sym, ap, ◌∙◌, Option, Some, None, zero-add, subst, arith, ◌⊎◌, inl, inr}
use Rattle.std.specs.List.{slice_get, range_with_len}
use Rattle.std.specs.Option.{option_map_or}
use Rattle.std.proofs.lemmas.List.{get_or_past}
use Rattle.std.proofs.lemmas.List.FromFn.{length-map-range_with_len, get_or-map-range_with_len}
use Rattle.std.proofs.lemmas.Option.{slice_get_cases}
use Rattle.fhir_definition.specs.Definition.{Definition}
use Rattle.fhir_nodes.specs.declared.node.NodeRef.{NodeRef}
use Rattle.fhir_nodes.specs.Contents.{elements_in, element_of}
use Rattle.fhir_summaries.specs.Summaries.{Summary, summary_of, row_of, all_summaries, unknown, summary_at}

module _ (ds : List Definition) (n : NodeRef) where
  -- of an element that isn't there nothing is known
  past_row : length (elements_in ds n.definition) ≤ n.element → get_or (row_of ds n.definition) n.element unknown ≡ unknown
  past_row past =
      let f : ℕ → Summary = λ element. summary_of ds (record { definition = n.definition; element = element }) in
      get_or_past (row_of ds n.definition) n.element unknown
      (subst (λ k. k ≤ n.element) (sym (length-map-range_with_len f 0 (length (elements_in ds n.definition)))) past)

  in_row : n.element < length (elements_in ds n.definition) → get_or (row_of ds n.definition) n.element unknown ≡ summary_of ds n
  in_row within =
      get_or-map-range_with_len (λ element. summary_of ds (record { definition = n.definition; element = element })) 0 (length (elements_in ds n.definition)) n.element n.element unknown within (zero-add n.element)

  past_rows : length ds ≤ n.definition → summary_at (all_summaries ds) n ≡ unknown
  past_rows past =
      ap (λ (row : List Summary). get_or row n.element unknown)
      (get_or_past (all_summaries ds) n.definition [] (subst (λ k. k ≤ n.definition) (sym (length-map-range_with_len (row_of ds) 0 (length ds))) past))

  in_rows : n.definition < length ds → summary_at (all_summaries ds) n ≡ get_or (row_of ds n.definition) n.element unknown
  in_rows within =
      ap (λ (row : List Summary). get_or row n.element unknown)
      (get_or-map-range_with_len (row_of ds) 0 (length ds) n.definition n.definition [] within (zero-add n.definition))

  pub known : (summary_at (all_summaries ds) n ≡ summary_of ds n) ⊎ ((summary_at (all_summaries ds) n ≡ unknown) × (element_of ds n ≡ None))
  known =
      elim (slice_get_cases ds n.definition).1 [
        | inl here ↦
            elim (slice_get_cases (elements_in ds n.definition) n.element).1 [
              | inl there ↦ inl (in_rows here.1 ∙ in_row there.1)
              | inr past ↦ inr (in_rows here.1 ∙ past_row past.0, past.1)
            ]
        | inr past ↦ inr (past_rows past.0, nothing past.1)
      ]
    where
      nothing : slice_get ds n.definition ≡ None → element_of ds n ≡ None
      nothing is = ap (λ (o : Option Definition). slice_get (option_map_or (λ d. d.elements) o []) n.element) is
