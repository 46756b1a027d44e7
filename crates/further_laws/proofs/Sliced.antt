-- The criteria of a slice of a definition that can be used.
use Rattle.std.proofs.Common.{◌≡◌, ◌<◌, ◌+◌, ℕ, zero, suc, Bool, true, List, [], ◌∷◌, ◌++◌, map, length, get_or, Option, None, Some, is_some, is_none, refl, sym, ap, ◌∙◌, IsTrue, arith}
use Rattle.std.specs.Prelude.{nat_lt}
use Rattle.std.specs.List.{list_all, flat_map, slice_get, range_with_len}
use Rattle.std.specs.Option.{option_map_or}
use Rattle.std.proofs.lemmas.Bool.{and_parts, false≢true, ltb-true}
use Rattle.std.proofs.lemmas.Option.{none-some, same_Some}
use Rattle.std.proofs.lemmas.List.{length-map}
use Rattle.std.proofs.lemmas.List.Folds.{list_all-append}
use Rattle.std.proofs.lemmas.List.FromFn.{get_or-map-range_with_len}
use Rattle.fhir_elements.specs.Element.{Element}
use Rattle.fhir_elements.specs.Slicing.{Discriminator}
use Rattle.fhir_elements.specs.Tests.{all_hold}
use Rattle.fhir_definition.specs.Definition.{Definition}
use Rattle.fhir_nodes.specs.declared.node.NodeRef.{NodeRef}
use Rattle.fhir_nodes.specs.Slots.{slots_of}
use Rattle.fhir_forms.specs.Slicings.{discriminators_of}
use Rattle.fhir_forms.specs.Criteria.{Criterion, criterion_of, is_told, is_told_by, criteria_by, sliced_at, criteria_in, is_told_apart, criteria_of, are_told_apart}
use Rattle.fhir_schema.specs.Settling.{reason_at, fault_of, types_are_usable, has_tree, targets_are_usable, lasting_tests}
use Rattle.fhir_schema.specs.Usability.{IsClosed}
use Rattle.fhir_schema.specs.Schemas.{SchemaValue, is_usable, elements_at, has, criteria}

-- ---- one criterion for each

one_each : (slots : _) (es : List Element) (place : ℕ) (ds : List Discriminator) → IsTrue (list_all (is_told slots es place) ds)
    → map (λ (c : Criterion). Some c) (flat_map (λ d. option_map_or (λ c. c ∷ []) (criterion_of slots es place d) []) ds) ≡ map (criterion_of slots es place) ds
one_each slots es place [] h = refl
one_each slots es place (d ∷ ds) h = by (criterion_of slots es place d) both.0 _ _ (one_each slots es place ds both.1)
  where
    both : (is_told slots es place d ≡ true) × (list_all (is_told slots es place) ds ≡ true)
    both = and_parts (is_told slots es place d) (list_all (is_told slots es place) ds) h

    by : (o : Option Criterion) → is_some o ≡ true → (more : List Criterion) (rest : List (Option Criterion)) → map (λ (c : Criterion). Some c) more ≡ rest
        → map (λ (c : Criterion). Some c) (option_map_or (λ c. c ∷ []) o [] ++ more) ≡ o ∷ rest
    by None none more rest e = absurd (false≢true none)
    by (Some c) some more rest e = ap (λ (cs : List (Option Criterion)). Some c ∷ cs) e

-- ---- of a definition that can be used

numbered : (p : ℕ → Bool) (a n k : ℕ) → list_all p (range_with_len a n) ≡ true → k < n → p (a + k) ≡ true
numbered p a zero k h below = absurd (omega (arith, below))
numbered p a (suc n) zero h below =
    let e : a ≡ a + 0 = omega arith in ap p (sym e) ∙ (and_parts (p a) (list_all p (range_with_len (a + 1) n)) h).0
numbered p a (suc n) (suc k) h below =
    let e : a + suc k ≡ a + 1 + k = omega arith in
    ap p e ∙ numbered p (a + 1) n k (and_parts (p a) (list_all p (range_with_len (a + 1) n)) h).1 (omega (arith, below))

mapped_at : {A B : Type 0} (f : A → List B) (xs : List A) (i : ℕ) (x : A) → slice_get xs i ≡ Some x → get_or (map f xs) i [] ≡ f x
mapped_at f [] i x e = absurd (none-some x e)
mapped_at f (y ∷ ys) zero x e = ap f (same_Some y x e)
mapped_at f (y ∷ ys) (suc i) x e = mapped_at f ys i x e

pub none_there : {A : Type 0} (o : Option A) → is_none o ≡ true → o ≡ None
none_there None h = refl
none_there (Some x) h = absurd (false≢true h)

module _ (s : SchemaValue) (placed : (place : ℕ) (d : Definition) → slice_get s.definitions place ≡ Some d → d.place ≡ place)
    (closed : IsClosed s.definitions s.reasons) where
  told_apart : (n : NodeRef) (d : Definition) → IsTrue (is_usable s n.definition) → slice_get s.definitions n.definition ≡ Some d
      → are_told_apart s.definitions d ≡ true
  told_apart n d usable at =
      let there = placed n.definition d at in
      let held = closed d (ap (slice_get s.definitions) there ∙ at) (ap (reason_at s.reasons) there ∙ none_there (reason_at s.reasons n.definition) usable) in
      let rest = and_parts _ _ (sym (list_all-append (λ test. test.0) (fault_of d) _) ∙ held) in
      let others = and_parts (types_are_usable s.definitions s.reasons d) _ rest.1 in
      let formed = and_parts (has_tree s.definitions d) _ others.1 in
      let lasting = and_parts (targets_are_usable s.definitions s.reasons d) (all_hold (lasting_tests s.definitions d)) formed.1 in
      let ends = and_parts _ _ lasting.1 in
      (and_parts (are_told_apart s.definitions d) _ ends.1).0

  module _ (n : NodeRef) (d : Definition) (sliced : Element) (known : IsTrue (has s n)) (at : slice_get s.definitions n.definition ≡ Some d)
      (is : sliced_at d.elements n.element ≡ Some sliced) where
    usable : (is_usable s n.definition ≡ true) × (nat_lt n.element (length (elements_at s n.definition)) ≡ true)
    usable = and_parts (is_usable s n.definition) (nat_lt n.element (length (elements_at s n.definition))) known

    below : n.element < length d.elements
    below = ltb-true n.element (length d.elements) (sym (ap (λ o. nat_lt n.element (length (option_map_or (λ (d : Definition). d.elements) o []))) at) ∙ usable.1)

    told : is_told_by (slots_of s.definitions d) d.elements n.element sliced ≡ true
    told =
        let start : n.element ≡ 0 + n.element = omega arith in
        let each : is_told_apart s.definitions d n.element ≡ true =
        ap (is_told_apart s.definitions d) start ∙ numbered (is_told_apart s.definitions d) 0 (length d.elements) n.element (told_apart n d usable.0 at) below in
        sym (ap (λ o. option_map_or (is_told_by (slots_of s.definitions d) d.elements n.element) o true) is) ∙ each

    pub criteria_are : criteria s n ≡ criteria_by (slots_of s.definitions d) d.elements n.element sliced
    criteria_are =
        let start : 0 + n.element ≡ n.element = omega arith in
        ap (λ lists. get_or lists n.element []) (mapped_at (criteria_of s.definitions) s.definitions n.definition d at)
        ∙ get_or-map-range_with_len (criteria_in s.definitions d) 0 (length d.elements) n.element n.element [] below start
        ∙ ap (λ o. option_map_or (criteria_by (slots_of s.definitions d) d.elements n.element) o []) is

    parts : (nat_lt 0 (length (discriminators_of sliced)) ≡ true) × (list_all (is_told (slots_of s.definitions d) d.elements n.element) (discriminators_of sliced) ≡ true)
    parts =
        and_parts (nat_lt 0 (length (discriminators_of sliced))) (list_all (is_told (slots_of s.definitions d) d.elements n.element) (discriminators_of sliced))
        told

    pub each_criterion : map (λ (c : Criterion). Some c) (criteria s n)
        ≡ map (criterion_of (slots_of s.definitions d) d.elements n.element) (discriminators_of sliced)
    each_criterion =
        ap (map (λ (c : Criterion). Some c)) criteria_are
        ∙ rw told (one_each (slots_of s.definitions d) d.elements n.element (discriminators_of sliced) parts.1)

    pub some_criterion : 0 < length (criteria s n)
    some_criterion =
        let long = sym (length-map (criteria s n) (λ (c : Criterion). Some c)) ∙ ap length each_criterion
        ∙ length-map (discriminators_of sliced) (criterion_of (slots_of s.definitions d) d.elements n.element) in
        omega (arith, long, ltb-true 0 (length (discriminators_of sliced)) parts.0)
