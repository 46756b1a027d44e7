-- What a table of forms finds under a name.
use Rattle.std.proofs.Common.{◌≡◌, ℕ, List, map, Option, None, Some, refl, ap, ◌∙◌}
use Rattle.std.specs.Option.{option_map, option_and_then}
use Rattle.std.specs.List.{slice_get}
use Rattle.std.proofs.lemmas.Option.{slice_get-map}
use Rattle.fhir_json.specs.Tree.{Text}
use Rattle.fhir_names.specs.Places.{Places, place_of}
use Rattle.fhir_names.specs.FirstPlaces.{value_at_place}
use Rattle.fhir_forms.specs.declared.form.Property.{Property}
use Rattle.fhir_forms.specs.Forms.{Form, spellings, property_of}
use Rattle.fhir_forms.specs.FormTables.{Meant, IsTable}

at_second : (ms : List Property) (xs : List Meant) (place : Option ℕ) → ms ≡ map (λ x. x.1) xs
    → option_and_then (slice_get ms) place ≡ option_and_then (λ p. option_map (λ x. x.1) (slice_get xs p)) place
at_second ms xs None e = refl
at_second ms xs (Some p) e = ap (λ l. slice_get l p) e ∙ slice_get-map (λ x. x.1) xs p

pub meaning_found : (ms : List Property) (places : Places) (fs : List Form) (name : Text) (place : Option ℕ) → IsTable ms places fs
    → place ≡ place_of places name → option_and_then (slice_get ms) place ≡ property_of fs name
meaning_found ms places fs name place h e =
    at_second ms (spellings fs) place h.means ∙ value_at_place places (spellings fs) name place h.finds e
