-- Where the forms of children stand.
use Rattle.std.specs.Prelude.{ℕ, List, Bool, false}
use Rattle.std.specs.List.{slice_get}
use Rattle.std.specs.Option.{option_map_or}
use Rattle.std.specs.Str.{bytes_eq}
use Rattle.fhir_json.specs.Tree.{Text}
use Rattle.fhir_forms.specs.Forms.{Form}

-- a form of the name stands at the place
abbrev pub is_at : List Form → Text → ℕ → Bool
is_at forms name place = option_map_or (λ form. bytes_eq form.name name) (slice_get forms place) false
