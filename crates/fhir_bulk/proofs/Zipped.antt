-- Two lists of which one is at its end.
use Rattle.std.proofs.Common.{◌≡◌, ◌⊎◌, ℕ, List, [], ◌∷◌, length, map, flat_map, zip, refl, inl, inr}

pub ended : {A B C D : Type 0} (f : A → B) (h : C → D) (g : B × D → List ℕ) (xs : List A) (ys : List C) → (length xs ≡ 0) ⊎ (length ys ≡ 0)
    → flat_map g (zip (map f xs) (map h ys)) ≡ []
ended f h g [] ys is = refl
ended f h g (x ∷ xs) [] is = refl
ended f h g (x ∷ xs) (y ∷ ys) (inl is) = cc
ended f h g (x ∷ xs) (y ∷ ys) (inr is) = cc
