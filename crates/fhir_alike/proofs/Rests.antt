-- What is left of a list behind a place, and lists that are put together from its elements in turn.
use Rattle.std.proofs.Common.{◌≡◌, ℕ, zero, suc, ◌<◌, ◌≤◌, ◌+◌, List, [], ◌∷◌, ◌++◌, map, length, drop, Option, Some}
use Rattle.std.proofs.Common.{refl, ap, sym, ◌∙◌, arith, append_assoc, add-one}
use Rattle.std.specs.Option.{option_map_or}
use Rattle.std.specs.List.{slice_get, flat_map}

pub rest_at : {A : Type 0} (xs : List A) (i : ℕ) → i < length xs → (x : A) × (slice_get xs i ≡ Some x) × (drop i xs ≡ x ∷ drop (i + 1) xs)
rest_at [] i h = absurd (omega arith)
rest_at (x ∷ xs) zero h = (x, refl, refl)
rest_at (x ∷ xs) (suc i) h =
    let r = rest_at xs i (omega arith) in
    let next : suc i + 1 ≡ suc (i + 1) = omega arith in
    (r.0, r.1, r.2 ∙ ap (λ n. r.0 ∷ drop n (x ∷ xs)) (sym next))

pub rest_none : {A : Type 0} (xs : List A) (i : ℕ) → length xs ≤ i → drop i xs ≡ []
rest_none [] zero h = refl
rest_none [] (suc i) h = refl
rest_none (x ∷ xs) zero h = absurd (omega arith)
rest_none (x ∷ xs) (suc i) h = rest_none xs i (omega arith)

pub append_nothing : {A : Type 0} (xs : List A) → xs ++ [] ≡ xs
append_nothing [] = refl
append_nothing (x ∷ xs) = ap (λ ys. x ∷ ys) (append_nothing xs)

-- what an element gives, where there is one
pub given : {A B : Type 0} (one : A → List B) (o : Option A) (x : A) → o ≡ Some x → option_map_or one o [] ≡ one x
given one o x e = ap (λ p. option_map_or one p []) e

module _ {A B : Type 0} (one : ℕ → A → List B) (from : ℕ → List A → List B)
    (step : (k : ℕ) (x : A) (xs : List A) → from k (x ∷ xs) ≡ one k x ++ from (suc k) xs) (stop : (k : ℕ) → from k [] ≡ []) where
  -- one turn of a loop that puts in what the element at a place gives
  pub from_turn : (xs : List A) (i : ℕ) (acc next all : List B) → i < length xs → acc ++ from i (drop i xs) ≡ all
      → next ≡ acc ++ option_map_or (one i) (slice_get xs i) [] → next ++ from (i + 1) (drop (i + 1) xs) ≡ all
  from_turn xs i acc next all h was now =
      let r = rest_at xs i h in
      let rest : List A = drop (i + 1) xs in
      let put : next ≡ acc ++ one i r.0 = now ∙ ap (λ ys. acc ++ ys) (given (one i) (slice_get xs i) r.0 r.1) in
      ap (λ ys. ys ++ from (i + 1) rest) put
      ∙ ap (λ k. (acc ++ one i r.0) ++ from k rest) (add-one i)
      ∙ append_assoc acc (one i r.0) (from (suc i) rest)
      ∙ ap (λ ys. acc ++ ys) (sym (step i r.0 rest))
      ∙ ap (λ ys. acc ++ from i ys) (sym r.2)
      ∙ was

  pub from_end : (xs : List A) (i : ℕ) (acc all : List B) → length xs ≤ i → acc ++ from i (drop i xs) ≡ all → acc ≡ all
  from_end xs i acc all h was =
      sym (append_nothing acc) ∙ sym (ap (λ ys. acc ++ ys) (ap (from i) (rest_none xs i h) ∙ stop i)) ∙ was

-- one turn of a loop that puts in what the element at a place becomes
pub map_turn : {A B : Type 0} (f : A → B) (d : B) (xs : List A) (i : ℕ) (acc next all : List B) (y : B) → i < length xs
    → acc ++ map f (drop i xs) ≡ all → y ≡ option_map_or f (slice_get xs i) d → next ≡ acc ++ y ∷ [] → next ++ map f (drop (i + 1) xs) ≡ all
map_turn f d xs i acc next all y h was is now =
    let r = rest_at xs i h in
    let there : y ≡ f r.0 = is ∙ ap (λ o. option_map_or f o d) r.1 in
    ap (λ ys. ys ++ map f (drop (i + 1) xs)) now
    ∙ append_assoc acc (y ∷ []) (map f (drop (i + 1) xs))
    ∙ ap (λ z. acc ++ z ∷ map f (drop (i + 1) xs)) there
    ∙ ap (λ ys. acc ++ map f ys) (sym r.2)
    ∙ was

-- the same where it gives some
pub flat_turn : {A B : Type 0} (one : A → List B) (xs : List A) (i : ℕ) (acc next all : List B) → i < length xs
    → acc ++ flat_map one (drop i xs) ≡ all → next ≡ acc ++ option_map_or one (slice_get xs i) [] → next ++ flat_map one (drop (i + 1) xs) ≡ all
flat_turn one xs i acc next all h was now =
    let r = rest_at xs i h in
    let rest = flat_map one (drop (i + 1) xs) in
    ap (λ ys. ys ++ rest) (now ∙ ap (λ ys. acc ++ ys) (given one (slice_get xs i) r.0 r.1))
    ∙ append_assoc acc (one r.0) rest
    ∙ ap (λ ys. acc ++ flat_map one ys) (sym r.2)
    ∙ was

pub map_end : {A B : Type 0} (f : A → B) (xs : List A) (i : ℕ) (acc all : List B) → length xs ≤ i → acc ++ map f (drop i xs) ≡ all → acc ≡ all
map_end f xs i acc all h was = sym (append_nothing acc) ∙ sym (ap (λ ys. acc ++ map f ys) (rest_none xs i h)) ∙ was

pub flat_end : {A B : Type 0} (one : A → List B) (xs : List A) (i : ℕ) (acc all : List B) → length xs ≤ i → acc ++ flat_map one (drop i xs) ≡ all
    → acc ≡ all
flat_end one xs i acc all h was = sym (append_nothing acc) ∙ sym (ap (λ ys. acc ++ flat_map one ys) (rest_none xs i h)) ∙ was
