-- Lemmas for who keeps a list beside an index of its names: what stands at the place that the index has under a name is
-- what a search through the list finds under it.
use Rattle.std.specs.Prelude.{◌≡◌, ℕ, ◌+◌, Bool, true, false, cond, List, [], ◌∷◌, map, Option, None, Some, refl}
use Rattle.std.specs.Option.{option_map, option_and_then}
use Rattle.std.specs.List.{find, position_from, slice_get}
use Rattle.std.specs.Map.{keys_of, lookup}
use Rattle.std.specs.Str.{bytes_eq}
use Rattle.std.proofs.Common.{ap, ◌∙◌, add-one}
use Rattle.fhir_json.specs.Tree.{Text}
use Rattle.fhir_names.specs.Places.{Places, place_of, Finds}

-- places that are counted from one more
places_shift : (test : Text → Bool) (i : ℕ) (names : List Text) → position_from test (i + 1) names ≡ option_map (λ p. p + 1) (position_from test i names)
places_shift test i [] = refl
places_shift test i (n ∷ names) =
    let rest = places_shift test (i + 1) names in
    elim (test n) as
    (λ b. cond b (Some (i + 1)) (position_from test (i + 1 + 1) names) ≡ option_map (λ p. p + 1) (cond b (Some i) (position_from test (i + 1) names)))
    [ true ↦ refl | false ↦ rest ]

module _ {A : Type 0} where
  -- what stands at a place, if that is one of the list's
  abbrev pub at_place : List A → Option ℕ → Option A
  at_place xs place = option_and_then (slice_get xs) place

  place_behind : (x : A) (xs : List A) (place : Option ℕ) → at_place (x ∷ xs) (option_map (λ p. p + 1) place) ≡ at_place xs place
  place_behind x xs None = refl
  place_behind x xs (Some p) = ap (slice_get (x ∷ xs)) (add-one p)

  at_first : (name : A → Text) (test : Text → Bool) (xs : List A) → at_place xs (position_from test 0 (map name xs)) ≡ find (λ x. test (name x)) xs
  at_first name test [] = refl
  at_first name test (x ∷ xs) =
      let names = map name xs in
      let rest : at_place (x ∷ xs) (position_from test (0 + 1) names) ≡ find (λ y. test (name y)) xs =
      ap (at_place (x ∷ xs)) (places_shift test 0 names) ∙ place_behind x xs (position_from test 0 names) ∙ at_first name test xs in
      elim (test (name x)) as (λ b. at_place (x ∷ xs) (cond b (Some 0) (position_from test (0 + 1) names)) ≡ cond b (Some x) (find (λ y. test (name y)) xs))
      [ true ↦ refl | false ↦ rest ]

  -- of a list of items, by their names
  pub item_at_place : (name : A → Text) (places : Places) (xs : List A) (n : Text) (place : Option ℕ) → Finds places (map name xs) → place ≡ place_of places n
      → at_place xs place ≡ find (λ x. bytes_eq n (name x)) xs
  item_at_place name places xs n place h e = ap (at_place xs) (e ∙ h n) ∙ at_first name (bytes_eq n) xs

module _ {V : Type 0} where
  found_value : (test : Text → Bool) (es : List (Text × V)) → option_map (λ e. e.1) (find (λ e. test e.0) es) ≡ lookup test es
  found_value test [] = refl
  found_value test (e ∷ es) =
      elim (test e.0) as (λ b. option_map (λ e. e.1) (cond b (Some e) (find (λ e. test e.0) es)) ≡ cond b (Some e.1) (lookup test es))
      [ true ↦ refl | false ↦ found_value test es ]

  value_then : (es : List (Text × V)) (place : Option ℕ)
      → option_and_then (λ p. option_map (λ e. e.1) (slice_get es p)) place ≡ option_map (λ e. e.1) (at_place es place)
  value_then es None = refl
  value_then es (Some p) = refl

  -- of a list of entries, by their keys: at the first place of one
  pub value_at_first : (es : List (Text × V)) (n : Text)
      → option_and_then (λ p. option_map (λ e. e.1) (slice_get es p)) (position_from (bytes_eq n) 0 (keys_of es)) ≡ lookup (bytes_eq n) es
  value_at_first es n =
      value_then es (position_from (bytes_eq n) 0 (keys_of es)) ∙ ap (option_map (λ e. e.1)) (at_first (λ e. e.0) (bytes_eq n) es) ∙ found_value (bytes_eq n) es

  -- and at the place that the index has
  pub value_at_place : (places : Places) (es : List (Text × V)) (n : Text) (place : Option ℕ) → Finds places (keys_of es) → place ≡ place_of places n
      → option_and_then (λ p. option_map (λ e. e.1) (slice_get es p)) place ≡ lookup (bytes_eq n) es
  value_at_place places es n place h e = ap (option_and_then (λ p. option_map (λ e. e.1) (slice_get es p))) (e ∙ h n) ∙ value_at_first es n
