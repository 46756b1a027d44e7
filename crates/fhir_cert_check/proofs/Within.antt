-- What stands in a list.
use Rattle.std.proofs.Common.{◌≡◌, Bool, true, false, List, [], ◌∷◌, map, Some, refl, inl, inr, ◌⊎◌, ap, sym, ◌∙◌, IsTrue, cond}
use Rattle.std.specs.List.{list_all, list_any, find, filter, flat_map}
use Rattle.std.proofs.lemmas.Bool.{and_parts, and_from, or_cases, or_left, or_right, false≢true}
use Rattle.std.proofs.lemmas.Option.{none-some, same_Some}
use Rattle.fhir_json.specs.Bytes.{is_empty}
use Rattle.fhir_cert_check.proofs.Answered.{all_append, all_joined}

-- it is one of the list
abbrev pub Within : {A : Type 0} → A → List A → Type 0
Within x [] = ⊥
Within x (y ∷ ys) = (x ≡ y) ⊎ Within x ys

pub some_within : {A : Type 0} (xs : List A) → is_empty xs ≡ false → (x : A) × Within x xs
some_within [] e = absurd (false≢true (sym e))
some_within (x ∷ xs) e = (x, inl refl)

pub within_some : {A : Type 0} (x : A) (xs : List A) → Within x xs → is_empty xs ≡ false
within_some x [] there = absurd there
within_some x (y ∷ ys) there = refl

-- ---- tests of all, and of one

pub at_within : {A : Type 0} (p : A → Bool) (xs : List A) (x : A) → Within x xs → IsTrue (list_all p xs) → IsTrue (p x)
at_within p [] x there each = absurd there
at_within p (y ∷ ys) x there each =
    let parts = and_parts (p y) (list_all p ys) each in
    elim there [
      | inl here ↦ ap p here ∙ parts.0
      | inr behind ↦ at_within p ys x behind parts.1
    ]

pub all_within : {A : Type 0} (p : A → Bool) (xs : List A) → ((x : A) → Within x xs → IsTrue (p x)) → IsTrue (list_all p xs)
all_within p [] f = refl
all_within p (x ∷ xs) f = and_from (p x) (list_all p xs) (f x (inl refl)) (all_within p xs (λ y there. f y (inr there)))

pub any_within : {A : Type 0} (p : A → Bool) (xs : List A) (Q : Type 0) → ((x : A) → Within x xs → IsTrue (p x) → Q) → IsTrue (list_any p xs) → Q
any_within p [] Q f some = absurd (false≢true some)
any_within p (x ∷ xs) Q f some =
    elim (or_cases (p x) (list_any p xs) some) [
      | inl here ↦ f x (inl refl) here
      | inr there ↦ any_within p xs Q (λ y at passes. f y (inr at) passes) there
    ]

pub within_any : {A : Type 0} (p : A → Bool) (xs : List A) (x : A) → Within x xs → IsTrue (p x) → IsTrue (list_any p xs)
within_any p [] x there passes = absurd there
within_any p (y ∷ ys) x there passes =
    elim there [
      | inl here ↦ or_left (p y) (list_any p ys) (ap p (sym here) ∙ passes)
      | inr behind ↦ or_right (p y) (list_any p ys) (within_any p ys x behind passes)
    ]

-- ---- what is found, and what is kept

pub found_within : {A : Type 0} (p : A → Bool) (xs : List A) (a : A) → find p xs ≡ Some a → Within a xs × IsTrue (p a)
found_within p [] a e = absurd (none-some a e)
found_within p (x ∷ xs) a e = go (p x) refl e (found_within p xs a)
  where
    go : (b : Bool) → p x ≡ b → cond b (Some x) (find p xs) ≡ Some a → (find p xs ≡ Some a → Within a xs × IsTrue (p a))
        → Within a (x ∷ xs) × IsTrue (p a)
    go true is e behind = let same = same_Some x a e in (inl (sym same), ap p (sym same) ∙ is)
    go false is e behind = let found = behind e in (inr found.0, found.1)

pub within_kept : {A : Type 0} (p : A → Bool) (xs : List A) (x : A) → Within x xs → IsTrue (p x) → Within x (filter p xs)
within_kept p [] x there passes = there
within_kept p (y ∷ ys) x there passes =
    elim there [
      | inl here ↦ first (p y) (ap p (sym here) ∙ passes) here
      | inr behind ↦ later (p y) (within_kept p ys x behind passes)
    ]
  where
    first : (b : Bool) → IsTrue b → x ≡ y → Within x (cond b (y ∷ filter p ys) (filter p ys))
    first true is here = inl here
    first false is here = absurd (false≢true is)

    later : (b : Bool) → Within x (filter p ys) → Within x (cond b (y ∷ filter p ys) (filter p ys))
    later true behind = inr behind
    later false behind = behind

-- ---- what each gives

pub given_at : {A B : Type 0} (p : B → Bool) (f : A → B) (xs : List A) (x : A) → Within x xs → IsTrue (list_all p (map f xs)) → IsTrue (p (f x))
given_at p f [] x there each = absurd there
given_at p f (y ∷ ys) x there each =
    let parts = and_parts (p (f y)) (list_all p (map f ys)) each in
    elim there [
      | inl here ↦ ap (λ z. p (f z)) here ∙ parts.0
      | inr behind ↦ given_at p f ys x behind parts.1
    ]

pub given_all : {A B : Type 0} (p : B → Bool) (f : A → B) (xs : List A) → ((x : A) → Within x xs → IsTrue (p (f x))) → IsTrue (list_all p (map f xs))
given_all p f [] g = refl
given_all p f (x ∷ xs) g = and_from (p (f x)) (list_all p (map f xs)) (g x (inl refl)) (given_all p f xs (λ y there. g y (inr there)))

pub flat_at : {A B : Type 0} (p : B → Bool) (f : A → List B) (xs : List A) (x : A) → Within x xs → IsTrue (list_all p (flat_map f xs))
    → IsTrue (list_all p (f x))
flat_at p f [] x there each = absurd there
flat_at p f (y ∷ ys) x there each =
    let parts = all_append p (f y) (flat_map f ys) each in
    elim there [
      | inl here ↦ ap (λ z. list_all p (f z)) here ∙ parts.0
      | inr behind ↦ flat_at p f ys x behind parts.1
    ]

pub flat_all : {A B : Type 0} (p : B → Bool) (f : A → List B) (xs : List A) → ((x : A) → Within x xs → IsTrue (list_all p (f x)))
    → IsTrue (list_all p (flat_map f xs))
flat_all p f [] g = refl
flat_all p f (x ∷ xs) g = all_joined p (f x) (flat_map f xs) (g x (inl refl)) (flat_all p f xs (λ y there. g y (inr there)))
