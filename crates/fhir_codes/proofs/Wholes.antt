-- One more code system that is kept whole.
use Rattle.std.proofs.Common.{◌≡◌, ℕ, zero, suc, List, [], ◌∷◌, ◌++◌, length, Bool, true, false, cond, Option, None, Some, refl, sym, ◌∙◌, ap, inl, inr}
use Rattle.std.specs.List.{slice_get}
use Rattle.std.specs.Str.{bytes_eq}
use Rattle.std.proofs.lemmas.Bool.{cases_Bool}
use Rattle.std.proofs.lemmas.Slice.Eq.{bytes_eq-Decides}
use Rattle.fhir_json.specs.Tree.{Text}
use Rattle.fhir_names.specs.Places.{Places, place_of, Puts}
use Rattle.fhir_package.specs.Definitions.{Definitions}
use Rattle.fhir_codes.specs.Concepts.{Concepts}
use Rattle.fhir_codes.specs.Placing.{whole_of, AreWhole}

pub get_before : {A : Type 0} (xs : List A) (y z : A) (k : ℕ) → slice_get xs k ≡ Some z → slice_get (xs ++ y ∷ []) k ≡ Some z
get_before [] y z k at = absurd (let bad : None ≡ Some z = at in cc)
get_before (x ∷ xs) y z zero at = at
get_before (x ∷ xs) y z (suc k) at = get_before xs y z k at

pub get_last : {A : Type 0} (xs : List A) (y : A) → slice_get (xs ++ y ∷ []) (length xs) ≡ Some y
get_last [] y = refl
get_last (x ∷ xs) y = get_last xs y

pub whole_pushed : (p : Definitions) (urls : Places) (whole : List Concepts) (s : Concepts) → AreWhole p urls whole → AreWhole p urls (whole ++ s ∷ [])
whole_pushed p urls whole s right url place at = get_before whole s (whole_of p url) place (right url place at)

put_at : (b : Bool) (k place : ℕ) (old : Option ℕ) → b ≡ true → cond b (Some k) old ≡ Some place → k ≡ place
put_at true k place old is at = cc
put_at false k place old is at = absurd (let bad : false ≡ true = is in cc)

kept_at : (b : Bool) (k : ℕ) (old : Option ℕ) → b ≡ false → old ≡ cond b (Some k) old
kept_at true k old is = absurd (let bad : true ≡ false = is in cc)
kept_at false k old is = refl

pub whole_put : (p : Definitions) (old new : Places) (whole : List Concepts) (name : Text) → AreWhole p old whole → Puts old new name (length whole) → AreWhole p new (whole ++ whole_of p name ∷ [])
whole_put p old new whole name right puts url place at =
    let now : cond (bytes_eq url name) (Some (length whole)) (place_of old url) ≡ Some place = sym (puts url) ∙ at in
    elim (cases_Bool (bytes_eq url name)) [
      | inl is ↦
          let here : length whole ≡ place = put_at (bytes_eq url name) (length whole) place (place_of old url) is now in
          let one : url ≡ name = (bytes_eq-Decides url name).0 is in
          ap (slice_get (whole ++ whole_of p name ∷ [])) (sym here) ∙ get_last whole (whole_of p name) ∙ ap (λ u. Some (whole_of p u)) (sym one)
      | inr not ↦ get_before whole (whole_of p name) (whole_of p url) place (right url place (kept_at (bytes_eq url name) (length whole) (place_of old url) not ∙ now))
    ]
