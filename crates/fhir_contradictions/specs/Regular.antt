-- Where the root of a type's definition types each item of that type. It does, where no other type derives from one of resources that isn't
-- abstract, and no element of a type has children of its own in place of those of a type that isn't abstract. So it is in FHIR (FHIR R4,
-- StructureDefinition, abstract).
use Rattle.std.specs.Prelude.{ℕ, length, Bool, false, not, ◌&&◌, ◌||◌, Option, None, is_some, if◌then◌else◌}
use Rattle.std.specs.Option.{option_map_or, option_and_then}
use Rattle.std.specs.List.{list_any, slice_get, range_with_len}
use Rattle.fhir_json.specs.Tree.{Text}
use Rattle.fhir_json.specs.Bytes.{is_empty}
use Rattle.fhir_definition.specs.Definition.{Definition}
use Rattle.fhir_nodes.specs.declared.node.NodeRef.{NodeRef}
use Rattle.fhir_nodes.specs.Types.{is_resource, type_of_code}
use Rattle.fhir_schema.specs.Schemas.{SchemaValue, is_root_node, loaded, slots, type_root}
use Rattle.fhir_schema.specs.Covers.{type_at}
use Rattle.fhir_contradictions.specs.Typing.{type_codes}

-- the definition that one names as its base, if that can be used
abbrev pub base_of : SchemaValue → Definition → Option Definition
base_of s d = option_and_then (λ n. slice_get s.definitions n.definition) (option_and_then (loaded s) d.base)

-- the items of what derives from it may be typed otherwise: it is a profile, or a type of resources that isn't abstract
abbrev pub may_type_otherwise : Definition → Bool
may_type_otherwise b = not b.is_type || (is_resource b && not b.abstract)

-- its base is such a one, or can't be used
abbrev pub rests_on_such : SchemaValue → Definition → Bool
rests_on_such s d = option_map_or may_type_otherwise (base_of s d) (is_some d.base)

-- the code is of no type, or of one that isn't abstract
abbrev pub may_have_items : SchemaValue → Text → Bool
may_have_items s code = not (option_map_or (λ d. d.abstract) (type_of_code s.definitions code) false)

-- children of its own type the items of an element, though one of its types isn't abstract
abbrev pub types_inline : SchemaValue → NodeRef → Bool
types_inline s n = not (is_empty (slots s n)) && (not (is_root_node s n) && list_any (may_have_items s) (type_codes s n))

abbrev pub element_types_inline : SchemaValue → Definition → ℕ → Bool
element_types_inline s d element = types_inline s (record { definition = d.place; element = element })

-- a type by which an item of another type may be typed otherwise than by that
abbrev pub is_irregular : SchemaValue → Definition → Bool
is_irregular s d = d.is_type && (rests_on_such s d || list_any (element_types_inline s d) (range_with_len 0 (length d.elements)))

abbrev pub are_regular : SchemaValue → Bool
are_regular s = not (list_any (is_irregular s) s.definitions)

-- the root that types the items of a profile's root, where that is known: an item of an abstract type is of another one, too, or has children
-- of its own
abbrev pub typed_at_root : SchemaValue → NodeRef → Option NodeRef
typed_at_root s n = if are_regular s && may_have_items s (type_at s n) then type_root s (type_at s n) else None
