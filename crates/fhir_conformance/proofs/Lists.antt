-- Facts of each element of a list.
use Rattle.std.proofs.Common.{◌≡◌, ℕ, zero, suc, ◌+◌, add-zero, zero-add, add-one, arith, sym, Bool, List, [], ◌∷◌, ◌++◌, map, refl, ap, ◌∙◌, inl, inr, ◌&&◌, IsTrue}
use Rattle.std.specs.List.{range_with_len, list_all, list_any, flat_map, AllByRecursion}
use Rattle.std.proofs.lemmas.Bool.{and_parts, and_from, or_cases, or_left, or_right}

pub all_step : {A : Type 0} (p q : A → Bool) (xs : List A) → AllByRecursion (λ x. IsTrue (p x) → IsTrue (q x)) xs → IsTrue (list_all p xs) → IsTrue (list_all q xs)
all_step p q [] each holds = refl
all_step p q (x ∷ xs) each holds =
    let parts = and_parts (p x) (list_all p xs) holds in
    and_from (q x) (list_all q xs) (each.0 parts.0) (all_step p q xs each.1 parts.1)

pub any_step : {A : Type 0} (p q : A → Bool) (xs : List A) → AllByRecursion (λ x. IsTrue (p x) → IsTrue (q x)) xs → IsTrue (list_any p xs) → IsTrue (list_any q xs)
any_step p q [] each holds = holds
any_step p q (x ∷ xs) each holds =
    elim (or_cases (p x) (list_any p xs) holds) [
      | inl here ↦ or_left (q x) (list_any q xs) (each.0 here)
      | inr there ↦ or_right (q x) (list_any q xs) (any_step p q xs each.1 there)
    ]

pub all_same : {A : Type 0} (p q : A → Bool) (xs : List A) → AllByRecursion (λ x. p x ≡ q x) xs → list_all p xs ≡ list_all q xs
all_same p q [] each = refl
all_same p q (x ∷ xs) each = ap (λ b. b && list_all p xs) each.0 ∙ ap (λ b. q x && b) (all_same p q xs each.1)

pub all_weaker : {A : Type 0} (P Q : A → Type 0) → ((x : A) → P x → Q x) → (xs : List A) → AllByRecursion P xs → AllByRecursion Q xs
all_weaker P Q f [] each = tt
all_weaker P Q f (x ∷ xs) each = (f x each.0, all_weaker P Q f xs each.1)

pub all_of_each : {A : Type 0} (P : A → Type 0) → ((x : A) → P x) → (xs : List A) → AllByRecursion P xs
all_of_each P f [] = tt
all_of_each P f (x ∷ xs) = (f x, all_of_each P f xs)

pub all_front : {A : Type 0} (P : A → Type 0) (xs ys : List A) → AllByRecursion P (xs ++ ys) → AllByRecursion P xs
all_front P [] ys each = tt
all_front P (x ∷ xs) ys each = (each.0, all_front P xs ys each.1)

pub all_back : {A : Type 0} (P : A → Type 0) (xs ys : List A) → AllByRecursion P (xs ++ ys) → AllByRecursion P ys
all_back P [] ys each = each
all_back P (x ∷ xs) ys each = all_back P xs ys each.1

pub all_join : {A : Type 0} (P : A → Type 0) (xs ys : List A) → AllByRecursion P xs → AllByRecursion P ys → AllByRecursion P (xs ++ ys)
all_join P [] ys each more = more
all_join P (x ∷ xs) ys each more = (each.0, all_join P xs ys each.1 more)

-- of each that an element gives
pub all_given : {A B : Type 0} (P : B → Type 0) (f : A → List B) (xs : List A) → AllByRecursion P (flat_map f xs) → AllByRecursion (λ x. AllByRecursion P (f x)) xs
all_given P f [] each = tt
all_given P f (x ∷ xs) each = (all_front P (f x) (flat_map f xs) each, all_given P f xs (all_back P (f x) (flat_map f xs) each))

pub all_gathered : {A B : Type 0} (P : B → Type 0) (f : A → List B) (xs : List A) → AllByRecursion (λ x. AllByRecursion P (f x)) xs → AllByRecursion P (flat_map f xs)
all_gathered P f [] each = tt
all_gathered P f (x ∷ xs) each = all_join P (f x) (flat_map f xs) each.0 (all_gathered P f xs each.1)

pub all_mapped : {A B : Type 0} (P : B → Type 0) (f : A → B) (xs : List A) → AllByRecursion (λ x. P (f x)) xs → AllByRecursion P (map f xs)
all_mapped P f [] each = tt
all_mapped P f (x ∷ xs) each = (each.0, all_mapped P f xs each.1)

mapped_more : {A : Type 0} (f : ℕ → A) (start n : ℕ) → map f (range_with_len start (suc n)) ≡ map f (range_with_len start n) ++ f (start + n) ∷ []
mapped_more {A} f start zero = ap (λ (m : ℕ). f m ∷ []) (sym (add-zero start))
mapped_more {A} f start (suc n) =
    ap (λ (xs : List A). f start ∷ xs) (mapped_more f (start + 1) n)
    ∙ ap (λ (m : ℕ). f start ∷ (map f (range_with_len (start + 1) n) ++ f m ∷ [])) (moved start n)
  where
    moved : (start n : ℕ) → start + 1 + n ≡ start + suc n
    moved start n = omega arith

-- of the numbers from 0 on, one more
pub counted_more : {A : Type 0} (f : ℕ → A) (n : ℕ) → map f (range_with_len 0 (n + 1)) ≡ map f (range_with_len 0 n) ++ f n ∷ []
counted_more {A} f n =
    ap (λ (m : ℕ). map f (range_with_len 0 m)) (add-one n)
    ∙ mapped_more f 0 n
    ∙ ap (λ (m : ℕ). map f (range_with_len 0 n) ++ f m ∷ []) (zero-add n)
