-- The element of an id, where what it inherits is known (FHIR R4, Profiling, snapshots).
use Rattle.std.specs.Prelude.{List, [], ◌∷◌, Bool, not, ◌||◌, ◌==◌, Option, None, Some, if◌then◌else◌, codes}
use Rattle.std.specs.Option.{option_map_or, option_or}
use Rattle.std.specs.List.{list_any, ends_with}
use Rattle.std.specs.Str.{bytes_eq}
use Rattle.fhir_json.specs.Tree.{Text}
use Rattle.fhir_names.specs.Parents.{name_of}
use Rattle.fhir_elements.specs.declared.slicing.DiscriminatorType.{DiscriminatorType}
use Rattle.fhir_elements.specs.declared.slicing.DiscriminatorType.TheVariants as types
use Rattle.fhir_elements.specs.declared.slicing.SlicingRules.TheVariants as rules
use Rattle.fhir_elements.specs.Slicing.{Slicing}
use Rattle.fhir_elements.specs.Element.{Element}
use Rattle.fhir_overlay.specs.Overlay.{laid_over}
use Rattle.fhir_inheritance.specs.Keys.{path_of}
use Rattle.fhir_inheritance.specs.Elements.{find, names_under, sliced_names_under, slices_under}
use Rattle.fhir_inheritance.specs.Lists.{has_any, is_among, with_others}

-- ---- the slicing that is implied where an element has slices and doesn't say how they are told apart

abbrev pub is_extension : Text → Bool
is_extension name = bytes_eq name (codes "extension") || bytes_eq name (codes "modifierExtension")

-- open slices by one discriminator
abbrev pub open_by : DiscriminatorType → Text → Slicing
open_by type path = record {
  discriminators = record { by = Some type; path = Some path } ∷ [];
  ordered = None;
  rules = Some rules.Open;
}

-- extensions are told apart by their url, and choices by their type
abbrev pub implied : Text → Option Slicing
implied name =
    if is_extension name then Some (open_by types.Value (codes "url"))
    else (if ends_with (λ a b. a == b) name (codes "[x]") then Some (open_by types.TypeCode (codes "$this")) else None)

abbrev pub slicing_with : List Text → Element → Option Slicing
slicing_with slices e = option_or e.slicing (if has_any slices then implied (name_of e.id) else None)

-- ---- fields

-- the fields of an element of another id, as this one inherits them
abbrev pub moved : Text → Element → Element
moved id e = record e { id = id; path = Some (path_of id) }

abbrev pub over : Option Element → Element → Element
over d e = option_map_or (λ d. laid_over d e) d e

-- what the differential says of an id over what that inherits, where the element has these slices
abbrev pub laid : List Element → List Text → Element → Element
laid differential slices inherited =
    let e = over (find differential inherited.id) inherited in
    record e { slicing = slicing_with slices e }

-- ---- what stands under it

-- the base's slices, and then the new ones
abbrev pub all_slices : List Element → Text → List Text → List Text
all_slices differential id slices = with_others slices (slices_under differential id)

-- one of the others isn't among the names
abbrev pub has_new : List Text → List Text → Bool
has_new names others = list_any (λ name. not (is_among names name)) others

-- the differential has a child that the base doesn't have, or a slice of one
abbrev pub is_touched : List Element → Text → List Text → Bool
is_touched differential id names =
    has_new names (names_under differential id) || has_new names (sliced_names_under differential id)
