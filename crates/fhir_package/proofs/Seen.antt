-- Look-ups in entries, by the places at which their names first stand.
use Rattle.std.proofs.Common.{◌≡◌, ℕ, ◌+◌, Bool, true, false, cond, List, [], ◌∷◌, Option, None, Some, refl, ap, ◌∙◌, add-one}
use Rattle.std.specs.Option.{option_map, option_and_then}
use Rattle.std.specs.List.{position_from, slice_get}
use Rattle.std.specs.Map.{keys_of, lookup}
use Rattle.std.specs.Str.{bytes_eq}
use Rattle.fhir_names.specs.Places.{Places, place_of, Finds}

-- places that are counted from one more
pub position-shift : (t : List ℕ → Bool) (i : ℕ) (xs : List (List ℕ)) → position_from t (i + 1) xs ≡ option_map (λ p. p + 1) (position_from t i xs)
position-shift t i [] = refl
position-shift t i (x ∷ xs) =
    let rest = position-shift t (i + 1) xs in
    elim (t x) as (λ b. cond b (Some (i + 1)) (position_from t (i + 1 + 1) xs) ≡ option_map (λ p. p + 1) (cond b (Some i) (position_from t (i + 1) xs)))
    [ true ↦ refl | false ↦ rest ]

module _ {V : Type 0} where
  -- the value at a place
  abbrev pub value_at : List (List ℕ × V) → Option ℕ → Option V
  value_at es place = option_and_then (λ p. option_map (λ e. e.1) (slice_get es p)) place

  value_behind : (e : List ℕ × V) (es : List (List ℕ × V)) (place : Option ℕ) → value_at (e ∷ es) (option_map (λ p. p + 1) place) ≡ value_at es place
  value_behind e es None = refl
  value_behind e es (Some p) = ap (λ (n : ℕ). option_map (λ e. e.1) (slice_get (e ∷ es) n)) (add-one p)

  -- what stands where a name first stands is what the name finds
  pub value-first : (t : List ℕ → Bool) (es : List (List ℕ × V)) → value_at es (position_from t 0 (keys_of es)) ≡ lookup t es
  value-first t [] = refl
  value-first t (e ∷ es) =
      let rest : value_at (e ∷ es) (position_from t (0 + 1) (keys_of es)) ≡ lookup t es =
      ap (value_at (e ∷ es)) (position-shift t 0 (keys_of es)) ∙ value_behind e es (position_from t 0 (keys_of es)) ∙ value-first t es in
      elim (t e.0) as (λ b. value_at (e ∷ es) (cond b (Some 0) (position_from t (0 + 1) (keys_of es))) ≡ cond b (Some e.1) (lookup t es))
      [ true ↦ refl | false ↦ rest ]

-- so a name is looked up by its place
pub found : {V : Type 0} (places : Places) (es : List (List ℕ × V)) (name : List ℕ) (r : Option ℕ) → Finds places (keys_of es) → r ≡ place_of places name
    → value_at es r ≡ lookup (bytes_eq name) es
found places es name r h e = ap (value_at es) (e ∙ h name) ∙ value-first (bytes_eq name) es
