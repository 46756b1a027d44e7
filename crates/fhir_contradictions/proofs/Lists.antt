-- Lemmas over lists.
use Rattle.std.proofs.Common.{◌≡◌, refl, ap, sym, ◌∙◌, List, [], ◌∷◌, map, Bool, ◌||◌}
use Rattle.std.specs.List.{list_any}

-- whether a value of some list passes a test, by what it is made from
pub any_of_map : {A B : Type 0} (test : B → Bool) (f : A → B) (xs : List A) → list_any test (map f xs) ≡ list_any (λ x. test (f x)) xs
any_of_map test f [] = refl
any_of_map test f (x ∷ xs) = ap (λ rest. test (f x) || rest) (any_of_map test f xs)

pub any_made : {A B : Type 0} (test : B → Bool) (f : A → B) (xs : List A) (b : Bool) → b ≡ list_any (λ x. test (f x)) xs → b ≡ list_any test (map f xs)
any_made test f xs b is = is ∙ sym (any_of_map test f xs)
