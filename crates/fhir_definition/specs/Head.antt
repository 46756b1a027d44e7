-- The head of a StructureDefinition (FHIR R4, StructureDefinition): its fields beside the elements, and whether each is of
-- its kind and in its set.
use Rattle.std.specs.Prelude.{Bool, true, false, not, ◌&&◌, ◌||◌, Option, is_some, codes}
use Rattle.std.specs.Option.{option_map_or}
use Rattle.std.specs.Str.{bytes_eq}
use Rattle.fhir_json.specs.Tree.{Text, Tree}
use Rattle.fhir_json.specs.Fields.{field, is_object, text_in, text_at, allows_text, allows_flag, allows_items}
use Rattle.fhir_prims.specs.Texts.{is_uri}
use Rattle.fhir_prims.specs.Values.{prim_of}
use Rattle.fhir_definition.specs.declared.kind.TypeKind.{TypeKind}
use Rattle.fhir_definition.specs.Kind.{kind_of, is_primitive_kind}

abbrev pub kind_in : Tree → Option TypeKind
kind_in t = kind_of (text_at (codes "kind") t)

abbrev pub is_derivation : Text → Bool
is_derivation s = bytes_eq s (codes "specialization") || bytes_eq s (codes "constraint")

abbrev pub has_right_derivation : Tree → Bool
has_right_derivation t = option_map_or is_derivation (text_in (codes "derivation") t) true && allows_text (codes "derivation") t

-- a type definition is of a kind that it may be, and its derivation isn't `constraint`
abbrev pub is_type_definition : Tree → Bool
is_type_definition t = is_some (kind_in t) && not (bytes_eq (text_at (codes "derivation") t) (codes "constraint"))

-- a primitive type is one that the standard has
abbrev pub is_known_if_primitive : Tree → Bool
is_known_if_primitive t =
    not (is_type_definition t && option_map_or is_primitive_kind (kind_in t) false)
    || is_some (prim_of (text_at (codes "type") t))

abbrev pub has_right_snapshot : Tree → Bool
has_right_snapshot t = option_map_or (λ s. is_object s && allows_items (codes "element") s) (field (codes "snapshot") t) true

-- each field is of its kind, and in its set
abbrev pub has_right_head : Text → Tree → Bool
has_right_head url t =
    is_uri url
    && allows_text (codes "version") t
    && is_some (kind_in t)
    && allows_flag (codes "abstract") t
    && is_some (text_in (codes "type") t)
    && allows_text (codes "baseDefinition") t
    && has_right_derivation t
    && is_known_if_primitive t
    && has_right_snapshot t
