-- Which form a property is looked for at first (used by private contracts alone).
use Rattle.std.specs.Prelude.{◌≡◌, ℕ, List, true, Some}
use Rattle.std.specs.Option.{option_map}
use Rattle.std.specs.List.{slice_get}
use Rattle.std.specs.Str.{bytes_eq}
use Rattle.fhir_json.specs.Tree.{Text}
use Rattle.fhir_forms.specs.Forms.{Form}

-- the property of the form at a place has the name
abbrev pub HasProperty : List Form → Text → ℕ → Type 0
HasProperty fs name place = option_map (λ f. bytes_eq name f.property) (slice_get fs place) ≡ Some true
