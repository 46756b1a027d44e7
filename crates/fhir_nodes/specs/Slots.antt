-- Slots: the names that the children of an item may have at a node; and the slices of an element (FHIR R4, ElementDefinition, slicing).
use Rattle.std.specs.Prelude.{ℕ, List, [], map, filter, length, Bool, false, not, ◌&&◌, ◌==◌, nat_eq, Option, if◌then◌else◌, codes}
use Rattle.std.specs.Option.{option_map_or, option_and_then}
use Rattle.std.specs.List.{slice_get, list_all}
use Rattle.std.specs.Str.{bytes_eq}
use Rattle.fhir_json.specs.Tree.{Text}
use Rattle.fhir_names.specs.Parents.{front_of, name_of, slice_of}
use Rattle.fhir_elements.specs.TypeEntry.{TypeEntry}
use Rattle.fhir_elements.specs.Element.{Element}
use Rattle.fhir_definition.specs.Snapshot.{id_place, is_root}
use Rattle.fhir_definition.specs.Children.{children_of, slices_of as slice_places}
use Rattle.fhir_definition.specs.Definition.{Definition}
use Rattle.fhir_nodes.specs.Types.{names_primitive}
use Rattle.fhir_nodes.specs.Contents.{target_entries}

-- a name that children may have, or that of a slice, and the place of the element that says what its items are
pub record Slot : Type 0 where
  pub name : Text
  pub entry : ℕ

abbrev pub id_at : List Element → ℕ → Text
id_at es place = option_map_or (λ e. e.id) (slice_get es place) []

abbrev pub slot_at : List Element → ℕ → Slot
slot_at es place = record { name = name_of (id_at es place); entry = place }

abbrev pub slice_at : List Element → ℕ → Slot
slice_at es place = record { name = option_map_or (λ s. s) (slice_of (id_at es place)) []; entry = place }

-- ---- the value of a primitive, which is no child of it (FHIR R4, JSON: it stands in the element's own property)

abbrev pub entry_is_primitive : List Definition → TypeEntry → Bool
entry_is_primitive ds entry = names_primitive ds entry.code

-- one entry, of a primitive type
abbrev pub are_one_primitive : List Definition → List TypeEntry → Bool
are_one_primitive ds entries = (length entries == 1) && list_all (entry_is_primitive ds) entries

-- an element's own type entries, and where it has none those of the element that it refers to for its content
abbrev pub element_entries : List Definition → Definition → Element → List TypeEntry
element_entries ds d e = if nat_eq (length e.types) 0 then target_entries ds d.place e else e.types

-- its items are of one primitive type: that of its definition, if it is the root, and else that of its one entry
abbrev pub is_primitive_element : List Definition → Definition → Element → Bool
is_primitive_element ds d e = if is_root e then names_primitive ds d.type else are_one_primitive ds (element_entries ds d e)

-- the element above the one at a place, by its id
abbrev pub parent_at : List Element → ℕ → Option Element
parent_at es place = option_and_then (λ up. option_and_then (slice_get es) (id_place es up)) (front_of (id_at es place))

abbrev pub is_value_of_primitive : List Definition → Definition → ℕ → Bool
is_value_of_primitive ds d place =
    bytes_eq (name_of (id_at d.elements place)) (codes "value")
    && option_map_or (is_primitive_element ds d) (parent_at d.elements place) false

-- ---- the slots of each element

abbrev pub is_slot : List Definition → Definition → ℕ → Bool
is_slot ds d place = not (is_value_of_primitive ds d place)

abbrev pub slots_under : List Definition → Definition → List ℕ → List Slot
slots_under ds d places = map (slot_at d.elements) (filter (is_slot ds d) places)

abbrev pub slots_of : List Definition → Definition → List (List Slot)
slots_of ds d = map (slots_under ds d) (children_of d.elements)

-- those of each element of each definition
abbrev pub all_slots : List Definition → List (List (List Slot))
all_slots ds = map (slots_of ds) ds

-- ---- the slices of each element

abbrev pub slices_of : List Element → List (List Slot)
slices_of es = map (λ places. map (slice_at es) places) (slice_places es)

-- the slices of each element of each definition
abbrev pub all_slices : List Definition → List (List (List Slot))
all_slices ds = map (λ d. slices_of d.elements) ds
