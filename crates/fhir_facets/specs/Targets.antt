-- Targets of references (FHIR R4, ElementDefinition, type.targetProfile; References, literal references). A target is
-- judged by the type that a relative reference names; a reference of another form is passed over.
use Rattle.std.specs.Prelude.{Bool, true, false, not, ◌&&◌, ◌||◌, Option, codes}
use Rattle.std.specs.Option.{option_map, option_map_or, option_and_then}
use Rattle.std.specs.List.{list_any, list_all}
use Rattle.std.specs.Str.{bytes_eq}
use Rattle.fhir_json.specs.Tree.{Text}
use Rattle.fhir_json.specs.Bytes.{is_empty}
use Rattle.fhir_json.specs.Fields.{text_in}
use Rattle.fhir_names.specs.Targets.{relative_target}
use Rattle.fhir_elements.specs.TypeEntry.{TypeEntry}
use Rattle.fhir_schema.specs.Schemas.{SchemaValue, loaded}
use Rattle.fhir_schema.specs.Covers.{covers, type_at}
use Rattle.fhir_facets.specs.Unread.{Meaning, target}
use Rattle.fhir_facets.specs.Seen.{Seen}

-- only a type entry for references has targets that are judged
abbrev pub has_targets : TypeEntry → Bool
has_targets e = bytes_eq e.code (codes "Reference") && not (is_empty e.targets)

-- the type that the item's reference names, if it is relative
abbrev pub referred_type : Seen → Option Text
referred_type x = option_map (λ r. r.0) (option_and_then relative_target (option_and_then (text_in (codes "reference")) x.json))

-- the type of the profile that a canonical names, if that can be used
abbrev pub target_type : SchemaValue → Text → Option Text
target_type s canonical = option_map (type_at s) (loaded s canonical)

module _ (s : SchemaValue) where
  -- a resource of the type may be the target
  abbrev pub target_holds : Meaning → Text → Text → Bool
  target_holds m type canonical = option_map_or (λ c. covers s c type) (target_type s canonical) (m (target canonical))

  abbrev pub targets_hold : Meaning → TypeEntry → Seen → Bool
  targets_hold m e x =
      not (has_targets e) || option_map_or (λ type. list_any (target_holds m type) e.targets) (referred_type x) true

  -- one type covers another, where both are known
  abbrev pub covers_known : Option Text → Option Text → Bool
  covers_known base own = option_map_or (λ c. option_map_or (covers s c) own false) base false

  -- a target is the same, or of a type that the base's covers
  abbrev pub target_narrower : Text → Text → Bool
  target_narrower own base = bytes_eq own base || covers_known (target_type s base) (target_type s own)

  abbrev pub targets_narrower : TypeEntry → TypeEntry → Bool
  targets_narrower e base =
      not (has_targets base) || (has_targets e && list_all (λ t. list_any (target_narrower t) base.targets) e.targets)
