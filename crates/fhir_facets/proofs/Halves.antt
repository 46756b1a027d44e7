-- A test of the texts of a list, by those before a place and those from there on.
use Rattle.std.proofs.Common.{◌≡◌, ◌||◌, ℕ, List, Bool, true, false, map, take, drop, refl, ap, sym, ◌∙◌}
use Rattle.std.specs.List.{list_any}
use Rattle.std.proofs.lemmas.List.{take-append-drop, map-append}
use Rattle.std.proofs.lemmas.List.Folds.{list_any-append}

or_true : (a b : Bool) → true ≡ b → true ≡ (a || b)
or_true true b is = refl
or_true false b is = is

or_false : (r a b : Bool) → false ≡ b → r ≡ a → r ≡ (a || b)
or_false r true b none is = is
or_false r false b none is = is ∙ none

module _ {X Y : Type 0} (p : Y → Bool) (f : X → Y) (n : ℕ) (xs : List X) where
  any_halves : (list_any p (map f (take n xs)) || list_any p (map f (drop n xs))) ≡ list_any p (map f xs)
  any_halves =
      sym (list_any-append p (map f (take n xs)) (map f (drop n xs)))
      ∙ ap (list_any p) (sym (map-append f (take n xs) (drop n xs)) ∙ ap (map f) (take-append-drop n xs))

  pub any_behind : (behind : List X) → behind ≡ drop n xs → true ≡ list_any p (map f behind) → true ≡ list_any p (map f xs)
  any_behind behind back is =
      or_true (list_any p (map f (take n xs))) (list_any p (map f (drop n xs))) (is ∙ ap (λ l. list_any p (map f l)) back) ∙ any_halves

  pub any_before : (r : Bool) (before behind : List X) → before ≡ take n xs → behind ≡ drop n xs → false ≡ list_any p (map f behind)
      → r ≡ list_any p (map f before) → r ≡ list_any p (map f xs)
  any_before r before behind front back none is =
      or_false r (list_any p (map f (take n xs))) (list_any p (map f (drop n xs))) (none ∙ ap (λ l. list_any p (map f l)) back)
      (is ∙ ap (λ l. list_any p (map f l)) front) ∙ any_halves
