-- Which element another one refers to for its content (FHIR R4, ElementDefinition, contentReference): `#id` for an element of
-- the same definition, `url#id` for one of the definition that the url names, which may have a version.
use Rattle.std.specs.Prelude.{ℕ, List, [], Option, Some, if◌then◌else◌}
use Rattle.std.specs.Option.{option_map, option_map_or, option_and_then}
use Rattle.std.specs.List.{slice_get}
use Rattle.fhir_json.specs.Tree.{Text}
use Rattle.fhir_json.specs.Bytes.{is_empty}
use Rattle.fhir_names.specs.Texts.{cut_at_first}
use Rattle.fhir_elements.specs.TypeEntry.{TypeEntry}
use Rattle.fhir_elements.specs.Element.{Element}
use Rattle.fhir_definition.specs.Snapshot.{id_place, is_root}
use Rattle.fhir_definition.specs.Definition.{Definition}
use Rattle.fhir_nodes.specs.declared.node.NodeRef.{NodeRef}
use Rattle.fhir_nodes.specs.Urls.{canonical_place}

abbrev pub hash : ℕ
hash = 35

-- ---- the elements of all definitions

abbrev pub elements_in : List Definition → ℕ → List Element
elements_in ds place = option_map_or (λ d. d.elements) (slice_get ds place) []

abbrev pub element_of : List Definition → NodeRef → Option Element
element_of ds n = slice_get (elements_in ds n.definition) n.element

-- ---- the element that one refers to

-- the place of the definition that stands in front of `#`, in a reference of the definition at a place
abbrev pub content_place : List Definition → ℕ → Text → Option ℕ
content_place ds place front = if is_empty front then Some place else canonical_place ds front

abbrev pub id_node : List Definition → Text → ℕ → Option NodeRef
id_node ds id place =
    option_map (λ e. record { definition = place; element = e }) (id_place (elements_in ds place) id)

-- a text without `#` names no element
abbrev pub referred_node : List Definition → ℕ → Text → Option NodeRef
referred_node ds place text =
    option_and_then (λ cut. option_and_then (id_node ds cut.1) (content_place ds place cut.0)) (cut_at_first hash text)

abbrev pub content_target : List Definition → ℕ → Element → Option NodeRef
content_target ds place e = option_and_then (referred_node ds place) e.content_reference

abbrev pub target : List Definition → NodeRef → Option NodeRef
target ds n = option_and_then (content_target ds n.definition) (element_of ds n)

-- ---- its types

-- the type entries of an element; those that stand at a root are passed over
abbrev pub entries_of : Element → List TypeEntry
entries_of e = if is_root e then [] else e.types

-- those of the element to which one of the definition at a place refers
abbrev pub target_entries : List Definition → ℕ → Element → List TypeEntry
target_entries ds place e = option_map_or entries_of (option_and_then (element_of ds) (content_target ds place e)) []
