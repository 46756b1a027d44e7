-- The schema of a package: its definitions, which of them can be used, the nodes of those, and the concepts of its value sets.
use Rattle.std.specs.Prelude.{ℕ, List, [], length, get_or, Bool, false, not, ◌&&◌, nat_lt, Option, None, is_some, is_none, if◌then◌else◌}
use Rattle.std.specs.Option.{option_map, option_map_or, option_and_then}
use Rattle.std.specs.List.{slice_get, find}
use Rattle.std.specs.Str.{bytes_eq}
use Rattle.fhir_json.specs.Tree.{Text}
use Rattle.fhir_package.specs.Definitions.{Definitions}
use Rattle.fhir_codes.specs.Concepts.{Concepts}
use Rattle.fhir_codes.specs.Expanding.{Expansions, expansions_of, concepts_in}
use Rattle.fhir_elements.specs.declared.reason.Reason.{Reason}
use Rattle.fhir_elements.specs.TypeEntry.{TypeEntry}
use Rattle.fhir_elements.specs.Element.{Element}
use Rattle.fhir_nodes.specs.declared.node.NodeRef.{NodeRef}
use Rattle.fhir_definition.specs.Snapshot.{id_place, is_at, root_place}
use Rattle.fhir_definition.specs.Definition.{Definition, definitions_from}
use Rattle.fhir_nodes.specs.Types.{type_place, is_resource, type_of_code}
use Rattle.fhir_nodes.specs.Slots.{Slot, id_at, all_slices}
use Rattle.fhir_nodes.specs.Contents as contents
use Rattle.fhir_nodes.specs.Contents.{elements_in, element_of}
use Rattle.fhir_nodes.specs.Holders as holders
use Rattle.fhir_nodes.specs.Holders.{slots_at}
use Rattle.fhir_forms.specs.Slicings as slicings
use Rattle.fhir_forms.specs.Criteria.{Criterion, all_criteria}
use Rattle.fhir_forms.specs.Forms.{Form, all_forms, property_of}
use Rattle.fhir_forms.specs.declared.form.Property.{Property}
use Rattle.fhir_nodes.specs.Urls.{url_place, canonical_place}
use Rattle.fhir_schema.specs.Settling.{Reasons, all_reasons, reason_at}

pub record SchemaValue : Type 0 where
  pub definitions : List Definition
  -- why each can't be used
  pub reasons : Reasons
  pub value_sets : Expansions

abbrev pub schema_with : List Definition → Expansions → SchemaValue
schema_with ds sets = record { definitions = ds; reasons = all_reasons ds; value_sets = sets }

abbrev pub schema_of : Definitions → SchemaValue
schema_of p = schema_with (definitions_from 0 p.structure_definitions) (expansions_of p)

-- the concepts of the value set that a canonical names, if they can be read
abbrev pub concepts_at : SchemaValue → Text → Option Concepts
concepts_at s canonical = concepts_in s.value_sets canonical

-- why the definition at a url can't be used, if it is there and can't
abbrev pub unusable : SchemaValue → Text → Option Reason
unusable s url = option_and_then (reason_at s.reasons) (url_place s.definitions url)

abbrev pub is_usable : SchemaValue → ℕ → Bool
is_usable s place = is_none (reason_at s.reasons place)

-- ---- nodes

abbrev pub elements_at : SchemaValue → ℕ → List Element
elements_at s place = elements_in s.definitions place

-- those of the definition at a url
abbrev pub elements_of_url : SchemaValue → Text → List Element
elements_of_url s url = option_map_or (elements_at s) (url_place s.definitions url) []

-- the node is an element of a definition that can be used
abbrev pub has : SchemaValue → NodeRef → Bool
has s n = is_usable s n.definition && nat_lt n.element (length (elements_at s n.definition))

abbrev pub element_at : SchemaValue → NodeRef → Option Element
element_at s n = element_of s.definitions n

abbrev pub url_at : SchemaValue → ℕ → Text
url_at s place = option_map_or (λ d. d.url) (slice_get s.definitions place) []

abbrev pub id_of_node : SchemaValue → NodeRef → Text
id_of_node s n = id_at (elements_at s n.definition) n.element

-- the node of an element of a definition
abbrev pub node_in : SchemaValue → ℕ → Option ℕ → Option NodeRef
node_in s place element =
    if is_usable s place then option_map (λ e. record { definition = place; element = e }) element else None

-- the place of a definition's root among its elements
abbrev pub root_element : SchemaValue → ℕ → Option ℕ
root_element s place = root_place (elements_at s place)

-- the node is its definition's root
abbrev pub is_root_node : SchemaValue → NodeRef → Bool
is_root_node s n = is_at n.element (root_element s n.definition)

-- the root of a definition, and that of the definition at a url
abbrev pub root_in : SchemaValue → ℕ → Option NodeRef
root_in s place = node_in s place (root_element s place)

abbrev pub root : SchemaValue → Text → Option NodeRef
root s url = option_and_then (root_in s) (url_place s.definitions url)

-- a definition stands at the url, whether it can be used or not
abbrev pub has_definition : SchemaValue → Text → Bool
has_definition s url = is_some (url_place s.definitions url)

-- the root of the definition that a canonical names, if that can be used
abbrev pub loaded : SchemaValue → Text → Option NodeRef
loaded s canonical = option_and_then (root_in s) (canonical_place s.definitions canonical)

-- the node of a url and an id
abbrev pub node_with : SchemaValue → Text → ℕ → Option NodeRef
node_with s id place = node_in s place (id_place (elements_at s place) id)

abbrev pub node : SchemaValue → Text → Text → Option NodeRef
node s url id = option_and_then (node_with s id) (url_place s.definitions url)

-- ---- what stands below a node, and its types

abbrev pub slots : SchemaValue → NodeRef → List Slot
slots s n = slots_at s.definitions n

-- the node of a slot's element
abbrev pub entry_of : NodeRef → Slot → NodeRef
entry_of n slot = record { definition = n.definition; element = slot.entry }

-- the slot of a name
abbrev pub slot_named : SchemaValue → NodeRef → Text → Option Slot
slot_named s n name = find (λ slot. bytes_eq name slot.name) (slots s n)

-- ---- the slices of a node's element

abbrev pub slices : SchemaValue → NodeRef → List Slot
slices s n = get_or (get_or (all_slices s.definitions) n.definition []) n.element []

abbrev pub slice_named : SchemaValue → NodeRef → Text → Option Slot
slice_named s n name = find (λ slice. bytes_eq name slice.name) (slices s n)

-- by what an item is told to belong to the slice that a node is; a node that is none has no criteria
abbrev pub criteria : SchemaValue → NodeRef → List Criterion
criteria s n = get_or (get_or (all_criteria s.definitions) n.definition []) n.element []

-- each item of the node's element has to be in one of its slices
abbrev pub is_closed : SchemaValue → NodeRef → Bool
is_closed s n = option_map_or slicings.is_closed (element_at s n) false

-- ---- what stands below a node, and its types

-- the node that the node refers to for its content, if it refers to one
abbrev pub target : SchemaValue → NodeRef → Option NodeRef
target s n = contents.target s.definitions n

-- the node that has the node's children: itself, if it has any, and else the one that it refers to
abbrev pub holder : SchemaValue → NodeRef → Option NodeRef
holder s n = holders.holder s.definitions n

-- that one, if it has children
abbrev pub child_holder : SchemaValue → NodeRef → Option NodeRef
child_holder s n = holders.child_holder s.definitions n

-- the node's type entries; a root has none, and those that are written there are passed over
abbrev pub types : SchemaValue → NodeRef → List TypeEntry
types s n = if is_root_node s n then [] else option_map_or (λ e. e.types) (element_at s n) []

-- ---- how the children of an item at a node are spelled in JSON

abbrev pub forms : SchemaValue → NodeRef → List Form
forms s n = get_or (get_or (all_forms s.definitions) n.definition []) n.element []

-- what the name of a property means at a node
abbrev pub property : SchemaValue → NodeRef → Text → Option Property
property s n name = property_of (forms s n) name

-- the root of the definition of a type, if that can be used
abbrev pub type_root : SchemaValue → Text → Option NodeRef
type_root s code = option_and_then (root_in s) (type_place s.definitions code)

abbrev pub is_concrete : Definition → Bool
is_concrete d = is_resource d && not d.abstract

-- the root of the type of a resource, if a resource may be of it: it can be used, and isn't abstract
abbrev pub resource_root : SchemaValue → Text → Option NodeRef
resource_root s code =
    if option_map_or is_concrete (type_of_code s.definitions code) false then type_root s code else None
