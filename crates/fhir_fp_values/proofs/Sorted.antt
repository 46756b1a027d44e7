-- Children that are sorted by their names.
use Rattle.std.proofs.Common.{◌≡◌, ℕ, zero, suc, ◌+◌, ◌<◌, ◌≤◌, Bool, true, false, not, ◌&&◌, List, [], ◌∷◌, map, length, get_or, refl, sym, ap, ◌∙◌, arith}
use native.Mathlib.Numerals.{unary_clauses}
use Rattle.std.specs.Cmp.Lexicographic.{slice_cmp}
use Rattle.std.specs.List.{AllByRecursion, filter}
use Rattle.std.specs.List.Sorted.{IsSortedBy, IsStableBy, ties}
use Rattle.std.specs.Ordering.{is_lt, is_eq, nat_cmp, ordering_reverse}
use Rattle.std.specs.Str.{bytes_eq}
use Rattle.std.specs.declared.cmp.Ordering.{Ordering}
use Rattle.std.specs.declared.cmp.Ordering.TheVariants.{Less, Equal, Greater}
use Rattle.std.proofs.lemmas.Cmp.{nat_list_cmp_total}
use Rattle.std.proofs.lemmas.List.Sorted.{ranks_by}
use Rattle.std.proofs.lemmas.List.Sums.{sum_by-cons}
use Rattle.std.proofs.lemmas.Map.Text.{is_eq-slice_cmp}
use Rattle.std.proofs.lemmas.Slice.Eq.{bytes_eq-Decides}
use Rattle.fhir_json.specs.Tree.{Text}
use Rattle.fhir_instance.specs.Items.{kids_in}
use Rattle.fhir_instance.specs.View.{named_of}
use Rattle.fhir_fp_values.specs.declared.equality.KidRef.{KidRef}
use Rattle.fhir_fp_values.specs.Equality.{items_named}
use Rattle.fhir_fp_values.specs.Pairing.{kids_seen, Ascends, height, heights, heights_seen}

abbrev pub name_of : KidRef → Text
name_of k = (named_of k.kid.now).0

abbrev pub precedes : KidRef → KidRef → Bool
precedes k l = is_lt (slice_cmp nat_cmp (name_of k) (name_of l))

-- ---- they ascend

tail_sorted : (k : KidRef) (ks : List KidRef) → IsSortedBy precedes (k ∷ ks) → IsSortedBy precedes ks
tail_sorted k ks h = λ i d low high. let p = h (suc i) d (omega arith) (omega arith) in simp unary_clauses (simp unary_clauses at p)

above : (k l : KidRef) (ks : List KidRef) → precedes l k ≡ false
    → AllByRecursion (λ m. is_lt (slice_cmp nat_cmp m.0 (name_of l)) ≡ false) (kids_seen ks)
    → AllByRecursion (λ m. is_lt (slice_cmp nat_cmp m.0 (name_of k)) ≡ false) (kids_seen ks)
above k l [] h each = tt
above k l (m ∷ ks) h each = ((ranks_by nat_list_cmp_total name_of).chain m l k each.0 h, above k l ks h each.1)

pub ascends : (ks : List KidRef) → IsSortedBy precedes ks → Ascends (kids_seen ks)
ascends [] h = tt
ascends (k ∷ []) h = (tt, tt)
ascends (k ∷ l ∷ ks) h =
    let rest = ascends (l ∷ ks) (tail_sorted k (l ∷ ks) h) in
    let next : precedes l k ≡ false = h 0 k (omega arith) (omega arith) in
    ((next, above k l ks next rest.0), rest)

-- ---- those of a name stand as before

tie : (r s : Ordering) → r ≡ ordering_reverse s → (not (is_lt r) && not (is_lt s)) ≡ is_eq r
tie Less s e = refl
tie Equal Less e = absurd cc
tie Equal Equal e = refl
tie Equal Greater e = absurd cc
tie Greater Less e = refl
tie Greater Equal e = absurd cc
tie Greater Greater e = absurd cc

tied : (k l : KidRef) → ties precedes k l ≡ bytes_eq (name_of k) (name_of l)
tied k l =
    tie (slice_cmp nat_cmp (name_of k) (name_of l)) (slice_cmp nat_cmp (name_of l) (name_of k)) (nat_list_cmp_total.antisymm (name_of k) (name_of l))
    ∙ is_eq-slice_cmp (name_of k) (name_of l)

filter_same : {X : Type 0} (p q : X → Bool) → ((x : X) → p x ≡ q x) → (xs : List X) → filter p xs ≡ filter q xs
filter_same p q e [] = refl
filter_same p q e (x ∷ xs) = go (q x) refl (filter_same p q e xs)
  where
    go : (b : Bool) → q x ≡ b → filter p xs ≡ filter q xs → filter p (x ∷ xs) ≡ filter q (x ∷ xs)
    go true is ih = rw (e x, is) (ap (λ ys. x ∷ ys) ih)
    go false is ih = rw (e x, is) ih

first_passes : {X : Type 0} (p : X → Bool) (xs ys : List X) (x : X) → filter p xs ≡ x ∷ ys → p x ≡ true
first_passes p [] ys x h = absurd cc
first_passes p (z ∷ xs) ys x h = go (p z) refl (first_passes p xs ys x)
  where
    go : (b : Bool) → p z ≡ b → (filter p xs ≡ x ∷ ys → p x ≡ true) → p x ≡ true
    go true is later = let e : z ∷ filter p xs ≡ x ∷ ys = rw is at h in let f : z ≡ x = cc in ap p (sym f) ∙ is
    go false is later = later (rw is at h)

of_name_filtered : (n : Text) (ks : List KidRef) → items_named n (kids_in (kids_seen ks)) ≡ map (λ k. (named_of k.kid.now).1) (filter (λ k. bytes_eq n (name_of k)) ks)
of_name_filtered n [] = refl
of_name_filtered n (k ∷ ks) = go (bytes_eq n (name_of k)) refl (of_name_filtered n ks)
  where
    go : (b : Bool) → bytes_eq n (name_of k) ≡ b
        → items_named n (kids_in (kids_seen ks)) ≡ map (λ k. (named_of k.kid.now).1) (filter (λ k. bytes_eq n (name_of k)) ks)
        → items_named n (kids_in (kids_seen (k ∷ ks))) ≡ map (λ k. (named_of k.kid.now).1) (filter (λ k. bytes_eq n (name_of k)) (k ∷ ks))
    go true is ih = rw is (ap (λ xs. (named_of k.kid.now).1 ∷ xs) ih)
    go false is ih = rw is ih

module _ (old new : List KidRef) (h : IsStableBy precedes old new) (n : Text) where
  abbrev of_it : KidRef → Bool
  of_it k = bytes_eq n (name_of k)

  by_one : (k : KidRef) → of_it k ≡ true → filter of_it new ≡ filter of_it old
  by_one k is =
      let same : (l : KidRef) → ties precedes k l ≡ of_it l = λ l. tied k l ∙ ap (λ (t : Text). bytes_eq t (name_of l)) (sym ((bytes_eq-Decides n (name_of k)).0 is)) in
      sym (filter_same (ties precedes k) of_it same new) ∙ h k ∙ filter_same (ties precedes k) of_it same old

  of_both : filter of_it new ≡ filter of_it old
  of_both = go (filter of_it new) (filter of_it old) refl refl
    where
      go : (xs ys : List KidRef) → filter of_it new ≡ xs → filter of_it old ≡ ys → filter of_it new ≡ filter of_it old
      go [] [] a b = a ∙ sym b
      go (k ∷ xs) ys a b = by_one k (first_passes of_it new xs k a)
      go [] (k ∷ ys) a b = by_one k (first_passes of_it old ys k b)

  pub same_names : items_named n (kids_in (kids_seen new)) ≡ items_named n (kids_in (kids_seen old))
  same_names = of_name_filtered n new ∙ ap (map (λ k. (named_of k.kid.now).1)) of_both ∙ sym (of_name_filtered n old)

-- ---- how high they are together

pub heights_of_seen : (ks : List KidRef) → heights_seen ks ≡ heights (kids_in (kids_seen ks))
heights_of_seen [] = refl
heights_of_seen (k ∷ ks) = sum_by-cons (λ k. height (named_of k.kid.now).1) k ks ∙ ap (λ m. height (named_of k.kid.now).1 + m) (heights_of_seen ks)

-- one isn't higher than all together
pub one_below : (ks : List KidRef) (i : ℕ) (k : KidRef) → i < length ks → k ≡ get_or ks i k → height (named_of k.kid.now).1 ≤ heights_seen ks
one_below [] i k h is = absurd (omega arith)
one_below (x ∷ xs) zero k h is =
    let all = sum_by-cons (λ k. height (named_of k.kid.now).1) x xs in
    let same = ap (λ (k : KidRef). height (named_of k.kid.now).1) is in omega arith
one_below (x ∷ xs) (suc i) k h is =
    let all = sum_by-cons (λ k. height (named_of k.kid.now).1) x xs in
    let p = one_below xs i k (omega arith) is in omega arith
