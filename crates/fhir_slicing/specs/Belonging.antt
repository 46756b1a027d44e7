-- When an item belongs to a slice (FHIR R4, Profiling, slicing; ElementDefinition, slicing.discriminator): where each of the
-- slice's criteria finds what it looks for. No meaning of unread rules enters.
use Rattle.std.specs.Prelude.{List, [], ◌∷◌, ◌++◌, Bool, false, not, ◌&&◌, ◌||◌, Option, if◌then◌else◌, codes}
use Rattle.std.specs.Option.{option_map, option_map_or, option_and_then}
use Rattle.std.specs.List.{list_all, list_any, find, flat_map}
use Rattle.std.specs.Str.{bytes_eq}
use Rattle.fhir_json.specs.Tree.{Text, Tree}
use Rattle.fhir_json.specs.Bytes.{is_empty}
use Rattle.fhir_matching.specs.Equality.{equal}
use Rattle.fhir_matching.specs.Fitting.{fits}
use Rattle.fhir_nodes.specs.declared.node.NodeRef.{NodeRef}
use Rattle.fhir_forms.specs.Criteria.{Sought, fixed, pattern, present, absent, typed, Criterion}
use Rattle.fhir_nodes.specs.Slots.{Slot}
use Rattle.fhir_schema.specs.Schemas.{SchemaValue, criteria, entry_of, slices}
use Rattle.fhir_schema.specs.Covers.{covers}
use Rattle.fhir_instance.specs.Items.{Item, Kids, no_kids, kid, kids_of, type_of, json_of}

-- ---- the items at the end of a path

-- a choice is named without its `[x]`
abbrev pub is_called : Text → Text → Bool
is_called name element = bytes_eq name element || bytes_eq (name ++ codes "[x]") element

abbrev pub called : Text → Kids → List Item
called name no_kids = []
called name (kid element x kids) = if is_called name element then x ∷ called name kids else called name kids

-- those to which the names lead from an item
abbrev pub items_at : List Text → Item → List Item
items_at [] x = x ∷ []
items_at (name ∷ names) x = flat_map (items_at names) (called name (kids_of x))

-- ---- what is looked for

-- an item without a value is equal to none, and fits none
abbrev pub is_value : Tree → Item → Bool
is_value value x = option_map_or (equal value) (json_of x) false

abbrev pub has_pattern : Tree → Item → Bool
has_pattern p x = option_map_or (λ json. fits json p) (json_of x) false

abbrev pub is_typed : SchemaValue → List Text → Item → Bool
is_typed s codes x = list_any (λ code. covers s code (type_of x)) codes

-- it is found among these
abbrev pub is_found : SchemaValue → Sought → List Item → Bool
is_found s (fixed value) xs = list_any (is_value value) xs
is_found s (pattern p) xs = list_any (has_pattern p) xs
is_found s present xs = not (is_empty xs)
is_found s absent xs = is_empty xs
is_found s (typed codes) xs = list_any (is_typed s codes) xs

-- ---- belonging

abbrev pub criterion_holds : SchemaValue → Item → Criterion → Bool
criterion_holds s x c = is_found s c.sought (items_at c.names x)

-- the item belongs to the slice that has these criteria
abbrev pub belongs : SchemaValue → List Criterion → Item → Bool
belongs s cs x = list_all (criterion_holds s x) cs

-- ---- the slices of a node's element

-- the item belongs to a slice of the element
abbrev pub is_in : SchemaValue → NodeRef → Item → Slot → Bool
is_in s n x slice = belongs s (criteria s (entry_of n slice)) x

-- the first to which it belongs
abbrev pub slice_of : SchemaValue → NodeRef → Item → Option Slot
slice_of s n x = find (is_in s n x) (slices s n)

-- of no two of them, by their names
abbrev pub is_apart : SchemaValue → NodeRef → Item → Bool
is_apart s n x =
    list_all (λ one. list_all (λ other. bytes_eq one.name other.name || not (is_in s n x one && is_in s n x other)) (slices s n)) (slices s n)

-- the first to which it belongs, and the first of another name; is_apart says that there are no such two
abbrev pub other_slice : SchemaValue → NodeRef → Item → Slot → Option Slot
other_slice s n x one = find (λ other. is_in s n x other && not (bytes_eq one.name other.name)) (slices s n)

abbrev pub two_slices : SchemaValue → NodeRef → Item → Option (Slot × Slot)
two_slices s n x =
    option_and_then (λ one. option_map (λ other. (one, other)) (other_slice s n x one)) (slice_of s n x)

abbrev pub is_sliced : SchemaValue → NodeRef → Item → Bool
is_sliced s n x = list_any (is_in s n x) (slices s n)
