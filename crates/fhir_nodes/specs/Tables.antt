-- Indexes that find what a scan of a list finds (used by private contracts alone).
use Rattle.std.specs.Prelude.{◌≡◌, ℕ, List, Some}
use Rattle.std.specs.List.{slice_get}
use Rattle.fhir_json.specs.Tree.{Text}
use Rattle.fhir_names.specs.Places.{Places, place_of}
use Rattle.fhir_definition.specs.Definition.{Definition}
use Rattle.fhir_nodes.specs.Types.{type_place}
use Rattle.fhir_nodes.specs.Urls.{url_place}

abbrev pub FindsTypes : Places → List Definition → Type 0
FindsTypes places ds = (code : Text) → place_of places code ≡ type_place ds code

abbrev pub FindsUrls : Places → List Definition → Type 0
FindsUrls places ds = (url : Text) → place_of places url ≡ url_place ds url

-- each definition stands at its place
abbrev pub ArePlaced : List Definition → Type 0
ArePlaced ds = (i : ℕ) (d : Definition) → slice_get ds i ≡ Some d → d.place ≡ i
