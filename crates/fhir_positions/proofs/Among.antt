-- Lists whose elements are among others.
use Rattle.std.proofs.Common.{◌≡◌, ℕ, suc, true, List, [], ◌∷◌, ◌++◌, length, get_or, refl, sym, arith}
use Rattle.std.specs.Prelude.{All, nat_lt}
use Rattle.std.specs.List.{AllZip, Contains}
use Rattle.std.proofs.lemmas.Bool.{ltb-true}
use Rattle.std.proofs.lemmas.List.{get_or_default}
use Rattle.std.proofs.lemmas.List.Elements.{All-cons, All-nil, All-push, All-same, All-weaker, All-contains}
use Rattle.fhir_positions.specs.Among.{AreAmong}

module _ {X : Type 0} where
  pub first_there : (o : X) (xs : List X) → Contains (o ∷ xs) o
  first_there o xs = (0, omega arith, refl)

  pub behind_there : (o : X) (xs : List X) (x : X) → Contains xs x → Contains (o ∷ xs) x
  behind_there o xs x h = (suc h.0, omega (arith, h.1), h.2)

  pub at_place : (o : X) (xs : List X) (i : ℕ) (x : X) → true ≡ nat_lt i (length xs) → x ≡ get_or xs i x → Contains (o ∷ xs) x
  at_place o xs i x within same = behind_there o xs x (i, ltb-true i (length xs) (sym within), sym same)

  pub others_there : (o : X) (xs : List X) → AreAmong xs (o ∷ xs)
  others_there o xs k d within = behind_there o xs (get_or xs k d) (k, within, get_or_default xs k (get_or xs k d) d within)

  -- what is true of each of the others
  pub among_all : (P : X → Type 0) (xs ys : List X) → AreAmong xs ys → All P ys → All P xs
  among_all P xs ys among all = All-weaker (λ x. Contains ys x) P (λ x there. All-contains P ys x all there) xs among

  -- what is among those that are among others
  pub there_through : (xs ys : List X) (x : X) → Contains xs x → AreAmong xs ys → Contains ys x
  there_through xs ys x there among = All-contains (λ z. Contains ys z) xs x among there

  pub first_among : (o : X) (xs ys : List X) → Contains ys o → AreAmong xs ys → AreAmong (o ∷ xs) ys
  first_among o xs ys there among = All-cons (λ z. Contains ys z) o xs there among

  pub one_among : (xs ys new : List X) (x : X) → new ≡ xs ++ x ∷ [] → AreAmong xs ys → Contains ys x → AreAmong new ys
  one_among xs ys new x e among there = All-same (λ z. Contains ys z) new (xs ++ x ∷ []) e (All-push (λ z. Contains ys z) xs x among there)

-- each that stands beside something
pub zip_all : {A B : Type 0} (R : A → B → Type 0) (xs : List A) (ps : List B) → AllZip R xs ps → All (λ p. (x : A) × Contains xs x × R x p) ps
zip_all R [] [] h = All-nil (λ p. (x : _) × Contains [] x × R x p)
zip_all R [] (p ∷ ps) h = absurd h
zip_all R (x ∷ xs) [] h = absurd h
zip_all R (x ∷ xs) (p ∷ ps) h =
    All-cons (λ q. (y : _) × Contains (x ∷ xs) y × R y q) p ps (x, first_there x xs, h.0)
    (All-weaker (λ q. (y : _) × Contains xs y × R y q) (λ q. (y : _) × Contains (x ∷ xs) y × R y q) (λ q w. (w.0, behind_there x xs w.0 w.1, w.2)) ps
    (zip_all R xs ps h.1))
