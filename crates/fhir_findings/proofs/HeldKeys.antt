-- Keys that have places.
use Rattle.std.proofs.Common.{◌≡◌, ℕ, Bool, true, false, cond, ◌||◌, List, [], ◌∷◌, ◌++◌, Option, Some, is_some, refl, sym, ap, ◌∙◌}
use Rattle.std.proofs.lemmas.List.Folds.{list_any-append}
use Rattle.fhir_json.specs.Tree.{Text}
use Rattle.fhir_names.specs.Places.{Places, Puts}
use Rattle.fhir_reach.specs.Keys.{KeyValue, of_url, of_code, key_eq, has_key}
use Rattle.fhir_reach.specs.Places.{place_of_key}
use Rattle.fhir_findings.specs.Held.{PlacesKeys}

more_step : (same there : Bool) (place : ℕ) (old : Option ℕ) → is_some old ≡ there → is_some (cond same (Some place) old) ≡ (there || (same || false))
more_step true true place old h = refl
more_step true false place old h = refl
more_step false true place old h = h
more_step false false place old h = h

module _ (urls codes new_urls new_codes : Places) (k : KeyValue) (place : ℕ)
    (puts : (other : KeyValue) → place_of_key new_urls new_codes other ≡ cond (key_eq other k) (Some place) (place_of_key urls codes other)) where
  more : (keys : List KeyValue) → PlacesKeys urls codes keys → PlacesKeys new_urls new_codes (keys ++ k ∷ [])
  more keys old other =
      ap is_some (puts other)
      ∙ more_step (key_eq other k) (has_key keys other) place (place_of_key urls codes other) (old other)
      ∙ sym (list_any-append (key_eq other) keys (k ∷ []))

pub more_url : (urls codes new : Places) (url : Text) (place : ℕ) → Puts urls new url place
    → (keys : List KeyValue) → PlacesKeys urls codes keys → PlacesKeys new codes (keys ++ of_url url ∷ [])
more_url urls codes new url place puts = more urls codes new codes (of_url url) place by
  where
    by : (other : KeyValue) → place_of_key new codes other ≡ cond (key_eq other (of_url url)) (Some place) (place_of_key urls codes other)
    by (of_url other) = puts other
    by (of_code other) = refl

pub more_code : (urls codes new : Places) (code : Text) (place : ℕ) → Puts codes new code place
    → (keys : List KeyValue) → PlacesKeys urls codes keys → PlacesKeys urls new (keys ++ of_code code ∷ [])
more_code urls codes new code place puts = more urls codes urls new (of_code code) place by
  where
    by : (other : KeyValue) → place_of_key urls new other ≡ cond (key_eq other (of_code code)) (Some place) (place_of_key urls codes other)
    by (of_url other) = refl
    by (of_code other) = puts other
