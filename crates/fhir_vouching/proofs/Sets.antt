-- Things in the order of their texts.
use Rattle.std.proofs.Common.{◌≡◌, ℕ, suc, ◌+◌, ◌<◌, List, [], ◌∷◌, map, length, get_or, Bool, true, false, cond, ◌||◌, Result, Ok, Err, is_ok, refl, sym, ap, ◌∙◌, inl, inr, arith}
use Rattle.std.specs.List.{list_any, dedup, dedup_from, AllByRecursion}
use Rattle.std.specs.List.Sorted.{IsBinarySearchResult, IsPermutation, IsSearchInRange, IsSorted, IsSortedBy, IsStrictlySortedBy}
use Rattle.std.specs.declared.cmp.Ordering.{Ordering}
use Rattle.std.specs.declared.cmp.Ordering.TheVariants.{Less, Equal, Greater}
use Rattle.std.specs.Ordering.{nat_cmp, is_eq, is_lt, ordering_reverse}
use Rattle.std.specs.Cmp.Lexicographic.{slice_cmp}
use Rattle.std.specs.Str.{bytes_eq}
use Rattle.std.proofs.lemmas.Bool.{cases_lt, false≢true}
use Rattle.std.proofs.lemmas.Cmp.{nat_list_cmp_total, on_total}
use Rattle.std.proofs.lemmas.List.Folds.{list_any_at}
use Rattle.std.proofs.lemmas.List.Kept.{IsStrictlySortedBy-dedup}
use Rattle.std.proofs.lemmas.List.Sorted.{list_any-IsPermutation, searchable_from_sorted}
use Rattle.std.proofs.lemmas.Map.Keys.{Less-from_sorted}
use Rattle.std.proofs.lemmas.Map.Text.{is_eq-slice_cmp}
use Rattle.std.proofs.lemmas.Slice.Eq.{bytes_eq-Decides}
use Rattle.fhir_json.specs.Tree.{Text}

-- the order of texts
abbrev by_bytes : Text → Text → Ordering
by_bytes = slice_cmp nat_cmp

-- whether a text is another, by how the other stands to it
equal_text : (t u : Text) (r : Ordering) → by_bytes u t ≡ r → bytes_eq t u ≡ is_eq r
equal_text t u r e = sym (is_eq-slice_cmp t u) ∙ ap is_eq (nat_list_cmp_total.antisymm t u ∙ ap ordering_reverse e) ∙ reversed r
  where
    reversed : (r : Ordering) → is_eq (ordering_reverse r) ≡ is_eq r
    reversed Less = refl
    reversed Equal = refl
    reversed Greater = refl

module _ {A : Type 0} (key : A → Text) where
  -- a test of the texts is one of the things
  any_key : (p : Text → Bool) (xs : List A) → list_any p (map key xs) ≡ list_any (λ x. p (key x)) xs
  any_key p [] = refl
  any_key p (x ∷ xs) = ap (λ b. p (key x) || b) (any_key p xs)

  -- the order of things by their texts
  abbrev pub by_key : A → A → Ordering
  by_key x y = by_bytes (key x) (key y)

  -- what is below all things is so by their texts
  all_below : (x : A) (xs : List A) → AllByRecursion (λ y. by_key x y ≡ Less) xs
      → AllByRecursion (λ t. by_bytes (key x) t ≡ Less) (map key xs)
  all_below x [] h = tt
  all_below x (y ∷ xs) h = (h.0, all_below x xs h.1)

  -- and the other way round
  all_below_back : (x : A) (xs : List A) → AllByRecursion (λ t. by_bytes (key x) t ≡ Less) (map key xs)
      → AllByRecursion (λ y. by_key x y ≡ Less) xs
  all_below_back x [] h = tt
  all_below_back x (y ∷ xs) h = (h.0, all_below_back x xs h.1)

  -- things that rise by their texts have texts that rise
  texts_rise : (xs : List A) → IsStrictlySortedBy by_key xs → IsStrictlySortedBy by_bytes (map key xs)
  unfolding IsStrictlySortedBy
  texts_rise [] h = tt
  texts_rise (x ∷ xs) h = (all_below x xs h.0, texts_rise xs h.1)

  -- and the other way round
  things_rise : (xs : List A) → IsStrictlySortedBy by_bytes (map key xs) → IsStrictlySortedBy by_key xs
  unfolding IsStrictlySortedBy
  things_rise [] h = tt
  things_rise (x ∷ xs) h = (all_below_back x xs h.0, things_rise xs h.1)

  -- they are sorted then
  sorted : (xs : List A) → IsStrictlySortedBy by_bytes (map key xs) → IsSortedBy (λ x y. is_lt (by_key x y)) xs
  sorted xs h k d low high =
      ap is_lt
      (nat_list_cmp_total.antisymm (key (get_or xs (k + 1) d)) (key (get_or xs k d))
      ∙ ap ordering_reverse (Less-from_sorted by_key xs k (k + 1) d (things_rise xs h) (omega arith) high))

  -- where the thing at no place passes a test, none does
  none_passes : (p : A → Bool) (xs : List A) → ((k : ℕ) (d : A) → k < length xs → p (get_or xs k d) ≡ false) → list_any p xs ≡ false
  none_passes p [] none = refl
  none_passes p (x ∷ xs) none = ap (λ b. b || list_any p xs) (none 0 x (omega arith)) ∙ none_passes p xs (λ k d lt. none (suc k) d (omega arith))

  -- what a binary search for a text finds among things whose texts rise
  pub searched : (xs : List A) (t : Text) (r : Result ℕ ℕ) → IsSearchInRange r (length xs)
      → IsBinarySearchResult (λ x. by_bytes (key x) t) xs r → IsStrictlySortedBy by_bytes (map key xs) → is_ok r ≡ list_any (bytes_eq t) (map key xs)
  searched [] t (Ok i) lt at s = absurd (omega arith)
  searched (x ∷ xs) t (Ok i) lt at s =
      let equal = equal_text t (key (get_or (x ∷ xs) i x)) Equal (at x) in
      sym (any_key (bytes_eq t) (x ∷ xs) ∙ list_any_at (λ y. bytes_eq t (key y)) (x ∷ xs) i x lt equal)
  searched xs t (Err i) le parts s =
      let p = parts (searchable_from_sorted nat_list_cmp_total key xs t (sorted xs s)) in
      sym (any_key (bytes_eq t) xs ∙ none_passes (λ y. bytes_eq t (key y)) xs (λ k d lt. elim (cases_lt k i) [
        | inl below ↦ equal_text t (key (get_or xs k d)) Less (p.0 k d (omega arith) below)
        | inr above ↦ equal_text t (key (get_or xs k d)) Greater (p.1 k d above lt)
      ]))

  -- where doubles go, no text does
  module _ (same : A → A → Bool) (p : A → Bool) (alike : (x y : A) → same x y ≡ true → p x ≡ p y) where
    -- a test that is made twice
    twice : (b c rest : Bool) → b ≡ c → (c || rest) ≡ (c || (b || rest))
    twice true true rest e = refl
    twice true false rest e = absurd (false≢true (sym e))
    twice false true rest e = absurd (false≢true e)
    twice false false rest e = refl

    -- one more thing in front, which goes if it is the double of the next
    joined : (k x : A) (xs ys zs : List A) (b : Bool) → same x k ≡ b → list_any p ys ≡ (p k || list_any p xs)
        → list_any p zs ≡ (p x || list_any p xs) → list_any p (cond b ys (k ∷ zs)) ≡ (p k || (p x || list_any p xs))
    joined k x xs ys zs true is left right = left ∙ twice (p x) (p k) (list_any p xs) (alike x k is)
    joined k x xs ys zs false is left right = ap (λ b. p k || b) right

    -- the same of things behind a first one
    any_from : (k : A) (xs : List A) → list_any p (dedup_from same k xs) ≡ (p k || list_any p xs)
    any_from k [] = refl
    any_from k (x ∷ xs) = joined k x xs (dedup_from same k xs) (dedup_from same x xs) (same x k) refl (any_from k xs) (any_from x xs)

    any_dedup : (xs : List A) → list_any p (dedup same xs) ≡ list_any p xs
    any_dedup [] = refl
    any_dedup (x ∷ xs) = any_from x xs

  -- where things are sorted by their texts, they rise when doubles are gone
  pub distinct_rise : (same : A → A → Bool) → ((x y : A) → same x y ≡ bytes_eq (key x) (key y)) → (xs : List A) → IsSorted by_key xs
      → IsStrictlySortedBy by_bytes (map key (dedup same xs))
  distinct_rise same is xs s =
      texts_rise (dedup same xs)
      (IsStrictlySortedBy-dedup (on_total key nat_list_cmp_total) (λ x y. is x y ∙ sym (is_eq-slice_cmp (key x) (key y))) xs s)

  -- and their texts are those of the things in any other order
  pub distinct_same : (same : A → A → Bool) → ((x y : A) → same x y ≡ bytes_eq (key x) (key y)) → (xs ys : List A) → IsPermutation xs ys
      → (t : Text) → list_any (bytes_eq t) (map key (dedup same ys)) ≡ list_any (bytes_eq t) (map key xs)
  distinct_same same is xs ys moved t =
      let test : A → Bool = λ x. bytes_eq t (key x) in
      any_key (bytes_eq t) (dedup same ys)
      ∙ any_dedup same test (λ x y e. ap (bytes_eq t) ((bytes_eq-Decides (key x) (key y)).0 (sym (is x y) ∙ e))) ys
      ∙ sym (list_any-IsPermutation test xs ys moved)
      ∙ sym (any_key (bytes_eq t) xs)
