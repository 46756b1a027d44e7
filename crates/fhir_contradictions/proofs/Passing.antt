-- What passes tests, among the elements of a list.
use Rattle.std.proofs.Common.{Bool, List, [], ◌∷◌, ◌++◌, refl, sym, ◌∙◌, inl, inr, IsTrue}
use Rattle.std.specs.List.{list_all, list_any, flat_map, Contains}
use Rattle.std.proofs.lemmas.Bool.{and_parts, and_from, or_cases, or_left, or_right, false≢true}
use Rattle.std.proofs.lemmas.List.Folds.{list_all-append}
use Rattle.fhir_contradictions.proofs.Listed.{all_at}

-- of which all pass, all of the front do
pub all_front : {A : Type 0} (p : A → Bool) (xs ys : List A) → IsTrue (list_all p (xs ++ ys)) → IsTrue (list_all p xs)
all_front p xs ys h = (and_parts (list_all p xs) (list_all p ys) (sym (list_all-append p xs ys) ∙ h)).0

-- and all of the rest
pub all_back : {A : Type 0} (p : A → Bool) (xs ys : List A) → IsTrue (list_all p (xs ++ ys)) → IsTrue (list_all p ys)
all_back p xs ys h = (and_parts (list_all p xs) (list_all p ys) (sym (list_all-append p xs ys) ∙ h)).1

-- all that one element gives pass, where all that the elements give do
pub all_given : {A B : Type 0} (p : B → Bool) (f : A → List B) (xs : List A) (x : A) → Contains xs x → IsTrue (list_all p (flat_map f xs))
    → IsTrue (list_all p (f x))
all_given {A} p f xs x among h = all_at (λ (y : A). list_all p (f y)) xs x (by_each xs h) among
  where
    by_each : (ys : List A) → IsTrue (list_all p (flat_map f ys)) → IsTrue (list_all (λ (y : A). list_all p (f y)) ys)
    by_each [] h = refl
    by_each (y ∷ ys) h =
        and_from (list_all p (f y)) (list_all (λ (y : A). list_all p (f y)) ys) (all_front p (f y) (flat_map f ys) h) (by_each ys (all_back p (f y) (flat_map f ys) h))

-- of which all pass a test, all pass one that is weaker
pub all_weaker : {A : Type 0} (p q : A → Bool) → ((x : A) → IsTrue (p x) → IsTrue (q x)) → (xs : List A) → IsTrue (list_all p xs) → IsTrue (list_all q xs)
all_weaker p q f [] h = refl
all_weaker p q f (x ∷ xs) h =
    let parts = and_parts (p x) (list_all p xs) h in
    and_from (q x) (list_all q xs) (f x parts.0) (all_weaker p q f xs parts.1)

-- where some element passes a test, some element passes a weaker one
pub any_weaker : {A : Type 0} (p q : A → Bool) → ((x : A) → IsTrue (p x) → IsTrue (q x)) → (xs : List A) → IsTrue (list_any p xs) → IsTrue (list_any q xs)
any_weaker p q f [] h = h
any_weaker p q f (x ∷ xs) h =
    elim (or_cases (p x) (list_any p xs) h) [
      | inl here ↦ or_left (q x) (list_any q xs) (f x here)
      | inr there ↦ or_right (q x) (list_any q xs) (any_weaker p q f xs there)
    ]

-- an element that passes a test, with what all pass
pub some_at : {A : Type 0} (p q : A → Bool) (xs : List A) → IsTrue (list_any p xs) → IsTrue (list_all q xs) → (x : A) × (IsTrue (p x) × IsTrue (q x))
some_at p q [] any all = absurd (false≢true any)
some_at p q (x ∷ xs) any all =
    let parts = and_parts (q x) (list_all q xs) all in
    elim (or_cases (p x) (list_any p xs) any) [
      | inl here ↦ (x, (here, parts.0))
      | inr there ↦ some_at p q xs there parts.1
    ]
