-- A StructureDefinition by itself (FHIR R4, StructureDefinition): its fields, and what is wrong with it whatever the
-- other definitions are.
use Rattle.std.specs.Prelude.{ℕ, suc, List, [], ◌∷◌, map, length, Bool, true, false, not, ◌&&◌, ◌||◌, nat_lt, Option, Some, is_some, codes}
use Rattle.std.specs.Option.{option_map_or}
use Rattle.std.specs.List.{list_all, list_any}
use Rattle.fhir_json.specs.Tree.{Text, Tree}
use Rattle.fhir_json.specs.Fields.{field, text_in, text_at, flag_in, items_in}
use Rattle.fhir_elements.specs.declared.reason.Reason.{Reason}
use Rattle.fhir_elements.specs.declared.reason.Reason.TheVariants.{WrongField, MinOverMax, RepeatedType, WrongId}
use Rattle.fhir_elements.specs.Tests.{first_of}
use Rattle.fhir_elements.specs.Element.{Element, element_fault, fields_of}
use Rattle.fhir_definition.specs.declared.kind.TypeKind.{TypeKind}
use Rattle.fhir_definition.specs.Kind.{is_primitive_kind}
use Rattle.fhir_definition.specs.Head.{kind_in, is_type_definition, has_right_head}
use Rattle.fhir_definition.specs.Snapshot.{ids_differ, is_root}
use Rattle.fhir_definition.specs.Bounds.{has_lexical_bounds}
use Rattle.fhir_definition.specs.Contained.{names_contained}

pub record Definition : Type 0 where
  -- where it stands in the package's order
  pub place : ℕ
  pub url : Text
  pub version : Option Tree
  pub kind : Option TypeKind
  pub abstract : Bool
  -- the code of the type that it defines or constrains
  pub type : Text
  -- it defines the type, and doesn't constrain it
  pub is_type : Bool
  pub base : Option Text
  -- why it can't be used whatever the others are
  pub fault : Option Reason
  -- the elements of its snapshot
  pub elements : List Element

-- ---- what is wrong with it

abbrev pub element_trees : Tree → List Tree
element_trees t = option_map_or (items_in (codes "element")) (field (codes "snapshot") t) []

-- an element of a snapshot says how many there may be, unless it is the root has a type or a content reference, and names nothing that
-- its definition itself contains
abbrev pub is_whole : Element → Bool
is_whole e =
    is_some e.min && is_some e.max && (is_root e || nat_lt 0 (length e.types) || is_some e.content_reference) && not (names_contained e)

abbrev pub is_wrong_field : Option Reason → Bool
is_wrong_field (Some WrongField) = true
is_wrong_field _ = false

abbrev pub is_min_over_max : Option Reason → Bool
is_min_over_max (Some MinOverMax) = true
is_min_over_max _ = false

abbrev pub is_repeated_type : Option Reason → Bool
is_repeated_type (Some RepeatedType) = true
is_repeated_type _ = false

abbrev pub is_wrong_id : Option Reason → Bool
is_wrong_id (Some WrongId) = true
is_wrong_id _ = false

-- why each tree of the snapshot is no element, if it is none
abbrev pub element_faults : Tree → List (Option Reason)
element_faults t = map element_fault (element_trees t)

-- what a definition has to meet by itself, each with the reason that applies where it doesn't
abbrev pub own_tests : Text → Tree → List Element → List (Bool × Reason)
own_tests url t es =
    (has_right_head url t && list_all is_whole es && list_all has_lexical_bounds es && not (list_any is_wrong_field (element_faults t)), WrongField)
    ∷ (not (list_any is_min_over_max (element_faults t)), MinOverMax)
    ∷ (not (list_any is_repeated_type (element_faults t)), RepeatedType)
    ∷ (not (list_any is_wrong_id (element_faults t)) && ids_differ es, WrongId)
    ∷ []

abbrev pub own_fault : Text → Tree → List Element → Option Reason
own_fault url t es = first_of (own_tests url t es)

-- ---- its fields

abbrev pub definition_with : ℕ → Text → Tree → List Element → Definition
definition_with place url t es = record {
  place = place;
  url = url;
  version = field (codes "version") t;
  kind = kind_in t;
  abstract = option_map_or (λ b. b) (flag_in (codes "abstract") t) false;
  type = text_at (codes "type") t;
  is_type = is_type_definition t;
  base = text_in (codes "baseDefinition") t;
  fault = own_fault url t es;
  elements = es;
}

-- the definition that a tree is, at a place and under a url
abbrev pub definition_of : ℕ → Text → Tree → Definition
definition_of place url t = definition_with place url t (map fields_of (element_trees t))

-- the definitions of trees under their urls, whose places begin at a number
abbrev pub definitions_from : ℕ → List (Text × Tree) → List Definition
definitions_from n [] = []
definitions_from n (e ∷ es) = definition_of n e.0 e.1 ∷ definitions_from (suc n) es

-- ---- questions

abbrev pub has_snapshot : Definition → Bool
has_snapshot d = nat_lt 0 (length d.elements)

abbrev pub is_primitive : Definition → Bool
is_primitive d = option_map_or is_primitive_kind d.kind false
