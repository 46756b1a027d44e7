-- Canonicals that begin with `#`. Such a one names a resource that the definition itself contains (FHIR R4, References, Contained
-- Resources), so that the same text is another name in each definition. R4 has none for a value set (ElementDefinition, eld-12).
use Rattle.std.specs.Prelude.{Bool, false, ◌||◌, codes, nat_eq}
use Rattle.std.specs.List.{list_any, starts_with}
use Rattle.std.specs.Option.{option_map_or}
use Rattle.fhir_json.specs.Tree.{Text}
use Rattle.fhir_elements.specs.Element.{Element, required_value_set}
use Rattle.fhir_elements.specs.TypeEntry.{TypeEntry}

abbrev pub is_contained : Text → Bool
is_contained canonical = starts_with nat_eq canonical (codes "#")

abbrev pub has_contained_profile : TypeEntry → Bool
has_contained_profile t = list_any is_contained t.profiles

abbrev pub has_contained_target : TypeEntry → Bool
has_contained_target t = list_any is_contained t.targets

-- it names a profile, the target of a reference or the value set of a required binding so
abbrev pub names_contained : Element → Bool
names_contained e =
    list_any has_contained_profile e.types || list_any has_contained_target e.types || option_map_or is_contained (required_value_set e) false
