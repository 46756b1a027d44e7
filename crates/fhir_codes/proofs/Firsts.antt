-- The first concept of a set that passes a test.
use Rattle.std.proofs.Common.{◌≡◌, List, [], ◌∷◌, Option, Some, None, IfSome, is_some, is_none, Bool, true, false, not, cond, ◌||◌, ◌&&◌, refl, sym, ◌∙◌, ap}
use Rattle.std.specs.List.{find, list_any, list_all}
use Rattle.std.specs.Option.{option_map}
use Rattle.std.specs.FinSet as set
use Rattle.std.proofs.lemmas.Bool.{or_left, or_right}
use mathlib.Core.Bool.{false≢true}
use Rattle.fhir_codes.specs.Concepts.{Concept, Concepts}
use Rattle.fhir_codes.proofs.Members.{same, same_itself, has, has-list, set_of, any_alike, items_alike, subset-list}

pub not_true : (b : Bool) → not b ≡ true → b ≡ false
not_true true h = absurd (false≢true h)
not_true false h = refl

find_any : (test : Concept → Bool) (xs : List Concept) → is_some (find test xs) ≡ list_any test xs
find_any test [] = refl
find_any test (x ∷ xs) = elim (test x) as (λ b. is_some (cond b (Some x) (find test xs)) ≡ (b || list_any test xs)) [ true ↦ refl | false ↦ find_any test xs ]

none_any : (p : Concept → Bool) (xs : List Concept) → not (list_any (λ c. not (p c)) xs) ≡ list_all p xs
none_any p [] = refl
none_any p (x ∷ xs) = elim (p x) as (λ b. not (not b || list_any (λ c. not (p c)) xs) ≡ (b && list_all p xs)) [ true ↦ none_any p xs | false ↦ refl ]

found_is : (test : Concept → Bool) (xs : List Concept) (x : Concept) → Some x ≡ find test xs → (list_any (same x) xs ≡ true) × (test x ≡ true)
found_is test [] x e = let bad : Some x ≡ None = e in cc
found_is test (y ∷ ys) x e =
    elim (test y) as (λ b. test y ≡ b → Some x ≡ cond b (Some y) (find test ys) → (list_any (same x) (y ∷ ys) ≡ true) × (test x ≡ true)) [
      | true ↦ λ passes e.
          let is : x ≡ y = cc in
          (or_left (same x y) (list_any (same x) ys) (ap (same x) (sym is) ∙ same_itself x), ap test is ∙ passes)
      | false ↦ λ passes e.
          let rest = found_is test ys x e in
          (or_right (same x y) (list_any (same x) ys) rest.0, rest.1)
    ] refl e

module _ {X : Type 0} (seen : X → Concept) where
  is_there : (r : Option X) → is_some r ≡ is_some (option_map seen r)
  is_there None = refl
  is_there (Some x) = refl

  is_absent : (r : Option X) → is_none r ≡ not (is_some (option_map seen r))
  is_absent None = refl
  is_absent (Some x) = refl

  -- what is found is in the set, and passes
  pub first_is : (test : Concept → Bool) (xs : List Concept) (r : Option X) → option_map seen r ≡ find test xs → IfSome r (λ x. (has (set_of xs) (seen x) ≡ true) × (test (seen x) ≡ true))
  first_is test xs None e = tt
  first_is test xs (Some x) e =
      let is = found_is test xs (seen x) e in
      (has-list xs (seen x) ∙ is.0, is.1)

  -- what is found where those are looked for that fail a test is in the set, and fails
  pub outside_is : (test : Concept → Bool) (xs : List Concept) (r : Option X) → option_map seen r ≡ find (λ c. not (test c)) xs → IfSome r (λ x. (has (set_of xs) (seen x) ≡ true) × (test (seen x) ≡ false))
  outside_is test xs None e = tt
  outside_is test xs (Some x) e =
      let is = found_is (λ c. not (test c)) xs (seen x) e in
      (has-list xs (seen x) ∙ is.0, not_true (test (seen x)) is.1)

  -- something is found exactly where some concept of the set passes
  pub some_passes : (test : Concept → Bool) (xs : List Concept) (r : Option X) → option_map seen r ≡ find test xs → is_some r ≡ list_any test (set.items (set_of xs))
  some_passes test xs r e = is_there r ∙ ap is_some e ∙ find_any test xs ∙ sym (any_alike test (set.items (set_of xs)) xs (items_alike xs))

  -- nothing is found exactly where the set is a subset
  pub none_outside : (other : Concepts) (xs : List Concept) (r : Option X) → option_map seen r ≡ find (λ c. not (set.contains other c)) xs → is_none r ≡ set.is_subset (set_of xs) other
  none_outside other xs r e =
      is_absent r ∙ ap (λ o. not (is_some o)) e ∙ ap not (find_any (λ c. not (set.contains other c)) xs)
      ∙ none_any (set.contains other) xs ∙ subset-list xs other
