-- What a binary search finds among what is sorted by a total order.
use Rattle.std.proofs.Common.{◌≡◌, ℕ, suc, ◌<◌, List, [], ◌∷◌, length, get_or, false, ◌||◌, is_ok, Result, Ok, Err, refl, sym, ◌∙◌, ap, inl, inr, arith}
use Rattle.std.specs.List.{list_any}
use Rattle.std.specs.List.Sorted.{IsBinarySearchResult, IsSearchInRange, IsSorted}
use Rattle.std.specs.declared.cmp.Ordering.{Ordering}
use Rattle.std.specs.declared.cmp.Ordering.TheVariants.{Less, Equal, Greater}
use Rattle.std.specs.Ordering.{eq_by_cmp, is_eq}
use Rattle.std.specs.Cmp.{IsTotalOrder}
use Rattle.std.proofs.lemmas.Bool.{cases_lt}
use Rattle.std.proofs.lemmas.Cmp.{tied_back}
use Rattle.std.proofs.lemmas.List.Sorted.{searchable_from_sorted}
use Rattle.std.proofs.lemmas.List.Folds.{list_any_at}

module _ {K : Type 0} {R : K → K → Ordering} (o : IsTotalOrder R) where
  absent : (xs : List K) (x : K) → ((k : ℕ) → k < length xs → eq_by_cmp R x (get_or xs k x) ≡ false) → list_any (eq_by_cmp R x) xs ≡ false
  absent [] x none = refl
  absent (y ∷ ys) x none = ap (λ b. b || list_any (eq_by_cmp R x) ys) (none 0 (omega arith)) ∙ absent ys x (λ k lt. none (suc k) (omega arith))

  apart : (y x : K) (r : Ordering) → R x y ≡ r → (R y x ≡ Equal → ⊥) → eq_by_cmp R x y ≡ false
  apart y x Less e ne = ap is_eq e
  apart y x Equal e ne = absurd (ne (tied_back o x y e))
  apart y x Greater e ne = ap is_eq e

  less_apart : (y x : K) → R y x ≡ Less → eq_by_cmp R x y ≡ false
  less_apart y x h = apart y x (R x y) refl (λ e. let bad : Less ≡ Equal = sym h ∙ e in cc)

  greater_apart : (y x : K) → R y x ≡ Greater → eq_by_cmp R x y ≡ false
  greater_apart y x h = apart y x (R x y) refl (λ e. let bad : Greater ≡ Equal = sym h ∙ e in cc)

  pub searched_by : (xs : List K) (x : K) (r : Result ℕ ℕ) → IsSearchInRange r (length xs) → IsBinarySearchResult (λ y. R y x) xs r → IsSorted R xs → is_ok r ≡ list_any (eq_by_cmp R x) xs
  searched_by xs x (Ok i) lt at s = sym (list_any_at (eq_by_cmp R x) xs i x lt (ap is_eq (tied_back o (get_or xs i x) x (at x))))
  searched_by xs x (Err i) le parts s =
      let p = parts (searchable_from_sorted o (λ y. y) xs x s) in
      sym (absent xs x (λ k lt. elim (cases_lt k i) [ inl below ↦ less_apart (get_or xs k x) x (p.0 k x (omega arith) below) | inr above ↦ greater_apart (get_or xs k x) x (p.1 k x above lt) ]))
