-- What lists contain.
use Rattle.std.proofs.Common.{◌≡◌, ℕ, zero, suc, ◌<◌, Bool, true, false, cond, List, [], ◌∷◌, map, length, get_or, None, Some, refl, sym, ap, ◌∙◌, subst, ◌⊎◌, inl, inr, IsTrue, arith}
use Rattle.std.specs.List.{Contains, find, filter, flat_map, list_all, list_any, slice_get}
use Rattle.std.proofs.lemmas.Bool.{or_left, or_right, and_parts, false≢true}
use Rattle.std.proofs.lemmas.Option.{none-some, same_Some}
use Rattle.std.proofs.lemmas.List.Elements.{Contains-append_cases, Contains-append_left, Contains-append_right}

module _ {X : Type 0} where
  -- the empty list contains nothing
  pub contains_none : (y : X) → Contains [] y → ⊥
  contains_none y has = omega (arith, has.1)

  -- what a list contains is its first, or stands behind it
  pub contains_cases : (x : X) (xs : List X) (y : X) → Contains (x ∷ xs) y → (x ≡ y) ⊎ Contains xs y
  contains_cases x xs y has = at has.0 has.1 has.2
    where
      at : (k : ℕ) → k < length (x ∷ xs) → get_or (x ∷ xs) k y ≡ y → (x ≡ y) ⊎ Contains xs y
      at zero l e = inl e
      at (suc k) l e = inr (k, omega arith, e)

  -- the first is in the list
  pub contains_first : (x : X) (xs : List X) (y : X) → x ≡ y → Contains (x ∷ xs) y
  contains_first x xs y e = (0, omega arith, e)

  -- so is what stands behind it
  pub contains_later : (x : X) (xs : List X) (y : X) → Contains xs y → Contains (x ∷ xs) y
  contains_later x xs y has = Contains-append_right (x ∷ []) xs y has

  -- what passes a test and is in a list is among those that pass
  pub in_filter : (p : X → Bool) (xs : List X) (y : X) → Contains xs y → IsTrue (p y) → Contains (filter p xs) y
  in_filter p [] y has passes = absurd (contains_none y has)
  in_filter p (x ∷ xs) y has passes = go (p x) refl (λ there. in_filter p xs y there passes)
    where
      go : (b : Bool) → p x ≡ b → (Contains xs y → Contains (filter p xs) y) → Contains (cond b (x ∷ filter p xs) (filter p xs)) y
      go true e more =
          elim (contains_cases x xs y has) [
            | inl here ↦ contains_first x (filter p xs) y here
            | inr there ↦ contains_later x (filter p xs) y (more there)
          ]
      go false e more =
          elim (contains_cases x xs y has) [
            | inl here ↦ absurd (false≢true (sym e ∙ (ap p here ∙ passes)))
            | inr there ↦ more there
          ]

  -- what is among those that pass a test is in the list
  pub from_filter : (p : X → Bool) (xs : List X) (y : X) → Contains (filter p xs) y → Contains xs y
  from_filter p [] y has = has
  from_filter p (x ∷ xs) y has = go (p x) has (from_filter p xs y)
    where
      go : (b : Bool) → Contains (cond b (x ∷ filter p xs) (filter p xs)) y → (Contains (filter p xs) y → Contains xs y) → Contains (x ∷ xs) y
      go true has more =
          elim (contains_cases x (filter p xs) y has) [
            | inl here ↦ contains_first x xs y here
            | inr there ↦ contains_later x xs y (more there)
          ]
      go false has more = contains_later x xs y (more has)

  -- where one passes a test, some one does
  pub any_from : (p : X → Bool) (xs : List X) (y : X) → Contains xs y → IsTrue (p y) → IsTrue (list_any p xs)
  any_from p [] y has passes = absurd (contains_none y has)
  any_from p (x ∷ xs) y has passes =
      elim (contains_cases x xs y has) [
        | inl here ↦ or_left (p x) (list_any p xs) (ap p here ∙ passes)
        | inr there ↦ or_right (p x) (list_any p xs) (any_from p xs y there passes)
      ]

  -- where all pass a test, each one does
  pub all_at : (p : X → Bool) (xs : List X) (y : X) → IsTrue (list_all p xs) → Contains xs y → IsTrue (p y)
  all_at p [] y all has = absurd (contains_none y has)
  all_at p (x ∷ xs) y all has =
      let parts = and_parts (p x) (list_all p xs) all in
      elim (contains_cases x xs y has) [
        | inl here ↦ sym (ap p here) ∙ parts.0
        | inr there ↦ all_at p xs y parts.1 there
      ]

-- what is found in a list is one of it
pub found_among : {X : Type 0} (p : X → Bool) (xs : List X) (x : X) → find p xs ≡ Some x → Contains xs x
found_among p [] x is = absurd (none-some x is)
found_among {X} p (y ∷ ys) x is = by_case (p y) (found_among p ys x) is
  where
    by_case : (b : Bool) → (find p ys ≡ Some x → Contains ys x) → cond b (Some y) (find p ys) ≡ Some x → Contains (y ∷ ys) x
    by_case true more is = contains_first y ys x (same_Some y x is)
    by_case false more is = contains_later y ys x (more is)

module _ {A B : Type 0} where
  -- an element of a list, what it gives, and that this contains the other one
  pub record Given (f : A → List B) (xs : List A) (y : B) : Type 0 where
    pub from : A
    pub among : Contains xs from
    pub gives : Contains (f from) y

  -- what a flat map contains is given by an element
  pub from_flat_map : (f : A → List B) (xs : List A) (y : B) → Contains (flat_map f xs) y → Given f xs y
  from_flat_map f [] y has = absurd (contains_none y has)
  from_flat_map f (x ∷ xs) y has =
      elim (Contains-append_cases (f x) (flat_map f xs) y has) [
        | inl here ↦ record { from = x; among = contains_first x xs x refl; gives = here }
        | inr there ↦ later (from_flat_map f xs y there)
      ]
    where
      later : Given f xs y → Given f (x ∷ xs) y
      later g = record { from = g.from; among = contains_later x xs g.from g.among; gives = g.gives }

  -- what an element gives is in the flat map
  pub in_flat_map : (f : A → List B) (xs : List A) (x : A) (y : B) → Contains xs x → Contains (f x) y → Contains (flat_map f xs) y
  in_flat_map f [] x y among gives = absurd (contains_none x among)
  in_flat_map f (z ∷ xs) x y among gives =
      elim (contains_cases z xs x among) [
        | inl here ↦ Contains-append_left (f z) (flat_map f xs) y (subst (λ (w : A). Contains (f w) y) (sym here) gives)
        | inr there ↦ Contains-append_right (f z) (flat_map f xs) y (in_flat_map f xs x y there gives)
      ]

  -- an element of a list with its image
  pub record Mapped (f : A → B) (xs : List A) (y : B) : Type 0 where
    pub from : A
    pub among : Contains xs from
    pub is : f from ≡ y

  -- what a map contains is the image of an element
  pub from_map : (f : A → B) (xs : List A) (y : B) → Contains (map f xs) y → Mapped f xs y
  from_map f [] y has = absurd (contains_none y has)
  from_map f (x ∷ xs) y has =
      elim (contains_cases (f x) (map f xs) y has) [
        | inl here ↦ record { from = x; among = contains_first x xs x refl; is = here }
        | inr there ↦ later (from_map f xs y there)
      ]
    where
      later : Mapped f xs y → Mapped f (x ∷ xs) y
      later g = record { from = g.from; among = contains_later x xs g.from g.among; is = g.is }

  -- the image of an element is in the map
  pub in_map : (f : A → B) (xs : List A) (x : A) → Contains xs x → Contains (map f xs) (f x)
  in_map f [] y has = absurd (contains_none y has)
  in_map f (x ∷ xs) y has =
      elim (contains_cases x xs y has) [
        | inl here ↦ contains_first (f x) (map f xs) (f y) (ap f here)
        | inr there ↦ contains_later (f x) (map f xs) (f y) (in_map f xs y there)
      ]

  -- what stands at a place of a map
  pub at_map : (f : A → B) (xs : List A) (k : ℕ) (x : A) (z : B) → slice_get xs k ≡ Some x → get_or (map f xs) k z ≡ f x
  at_map f [] k x z e = absurd (none-some x e)
  at_map f (y ∷ xs) zero x z e = ap f (same_Some y x e)
  at_map f (y ∷ xs) (suc k) x z e = at_map f xs k x z e

  -- past the end of a list stands nothing in its map
  pub past_map : (f : A → B) (xs : List A) (k : ℕ) (z : B) → slice_get xs k ≡ None → get_or (map f xs) k z ≡ z
  past_map f [] k z e = refl
  past_map f (y ∷ xs) zero z e = absurd (none-some y (sym e))
  past_map f (y ∷ xs) (suc k) z e = past_map f xs k z e
