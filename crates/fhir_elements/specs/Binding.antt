-- The binding of an element (FHIR R4, ElementDefinition, binding).
use Rattle.std.specs.Prelude.{Bool, true, false, ◌&&◌, Option, codes, None, Some, if◌then◌else◌}
use Rattle.std.specs.Option.{option_map_or}
use Rattle.std.specs.Str.{bytes_eq}
use Rattle.fhir_json.specs.Tree.{Text, Tree}
use Rattle.fhir_json.specs.Fields.{is_object, text_in, allows_text}
use Rattle.fhir_elements.specs.declared.binding.Strength.{Strength}
use Rattle.fhir_elements.specs.Codes.{code_in, allows_code}
use Rattle.fhir_elements.specs.declared.binding.Strength.TheVariants as strengths

abbrev pub strength_of : Text → Option Strength
strength_of s =
    if bytes_eq s (codes "required") then Some strengths.Required
    else (if bytes_eq s (codes "extensible") then Some strengths.Extensible
    else (if bytes_eq s (codes "preferred") then Some strengths.Preferred
    else (if bytes_eq s (codes "example") then Some strengths.Example else None)))

pub record Binding : Type 0 where
  pub strength : Option Strength
  pub value_set : Option Text

abbrev pub is_binding : Tree → Bool
is_binding t = is_object t && allows_code strength_of (codes "strength") t && allows_text (codes "valueSet") t

abbrev pub binding_of : Tree → Binding
binding_of t = record {
  strength = code_in strength_of (codes "strength") t;
  value_set = text_in (codes "valueSet") t;
}

abbrev pub is_required : Strength → Bool
is_required strengths.Required = true
is_required strengths.Extensible = false
is_required strengths.Preferred = false
is_required strengths.Example = false

-- the value set that an item's codes have to be in (FHIR R4, Terminologies, required)
abbrev pub required_set : Binding → Option Text
required_set b = if option_map_or is_required b.strength false then b.value_set else None
