-- The contradictions of all elements of a definition, in their order; but for what can't be there, and what lies below that (FHIR R4,
-- ElementDefinition, max). An element that stands before the one above it is taken by itself.
use Rattle.std.specs.Prelude.{ℕ, suc, List, [], ◌∷◌, ◌++◌, map, Bool, false, not, ◌||◌, nat_eq, get_or, Option, None, Some, if◌then◌else◌}
use Rattle.std.specs.Option.{option_map_or, option_map, option_and_then}
use Rattle.fhir_json.specs.Bytes.{is_empty}
use Rattle.fhir_names.specs.Parents.{front_of, name_of}
use Rattle.fhir_elements.specs.Element.{Element}
use Rattle.fhir_definition.specs.Snapshot.{id_place, slice_place}
use Rattle.fhir_nodes.specs.declared.node.NodeRef.{NodeRef}
use Rattle.fhir_schema.specs.Schemas.{SchemaValue, elements_at, is_root_node, is_usable, slots, slot_named}
use Rattle.fhir_facets.specs.Cardinality.{is_forbidden}
use Rattle.fhir_contradictions.specs.declared.contradiction.Contradiction.{Contradiction}
use Rattle.fhir_contradictions.specs.Typing.{Under, typed_by}
use Rattle.fhir_contradictions.specs.Regular.{typed_at_root}
use Rattle.fhir_contradictions.specs.Contradictions.{contradictions_at}
use Rattle.fhir_contradictions.specs.declared.known.Known.{Known}

abbrev pub unknown : Known
unknown = record { typed_by = None; is_absent = false }

abbrev pub known_at : List Known → Option ℕ → Known
known_at known place = option_map_or (λ p. get_or known p unknown) place unknown

-- the node of an element of the definition at a place
abbrev pub node_of : ℕ → ℕ → NodeRef
node_of place element = record { definition = place; element = element }

-- what types the children of a node's items, where it has any
abbrev pub typed_below : SchemaValue → Under → NodeRef → Option NodeRef
typed_below s u n = if is_empty (slots s n) then None else typed_by s (Some u) n

module _ (s : SchemaValue) (place : ℕ) where
  abbrev pub elements : List Element
  elements = elements_at s place

  -- where the element itself stands, or the one that it is a slice of
  abbrev pub unsliced : ℕ → Element → ℕ
  unsliced at e = option_map_or (λ p. p) (slice_place elements e) at

  abbrev pub is_entry : ℕ → Element → ℕ → Bool
  is_entry at e above =
      option_map_or (λ slot. nat_eq slot.entry (unsliced at e)) (slot_named s (node_of place above) (name_of e.id)) false

  -- where the element above stands, among whose children this one is, or the one that it is a slice of
  abbrev pub above_of : Element → Option ℕ
  above_of e = option_and_then (id_place elements) (front_of e.id)

  -- what types the items' parents, with the items' name
  abbrev pub under_of : List Known → ℕ → Element → Option Under
  under_of known at e =
      option_and_then (λ above. if is_entry at e above then option_map (λ by. (by, name_of e.id)) (known_at known (Some above)).typed_by else None) (above_of e)

  abbrev pub typed_by_of : List Known → ℕ → Element → Option NodeRef
  typed_by_of known at e =
      if is_root_node s (node_of place at) then typed_at_root s (node_of place at)
      else option_and_then (λ u. typed_below s u (node_of place at)) (under_of known at e)

  -- a slice of the root: no item stands among those of a parent there, so that none belongs to it
  abbrev pub is_root_slice : Element → Bool
  is_root_slice e = option_map_or (λ p. is_root_node s (node_of place p)) (slice_place elements e) false

  -- no slot of the element above leads there, as to the value of a primitive, which is no child
  abbrev pub is_unreached : ℕ → Element → Bool
  is_unreached at e = option_map_or (λ above. not (is_entry at e above)) (above_of e) false

  abbrev pub is_absent_of : List Known → ℕ → Element → Bool
  is_absent_of known at e =
      is_forbidden e || is_root_slice e || is_unreached at e || (known_at known (above_of e)).is_absent
      || (known_at known (slice_place elements e)).is_absent

  abbrev pub next_known : List Known → ℕ → Element → Known
  next_known known at e = record { typed_by = typed_by_of known at e; is_absent = is_absent_of known at e }

  abbrev pub node_sliced : Element → Option NodeRef
  node_sliced e = option_map (node_of place) (slice_place elements e)

  abbrev pub found_at : List Known → ℕ → Element → List (NodeRef × Contradiction)
  found_at known at e =
      if is_absent_of known at e then [] else map (λ c. (node_of place at, c)) (contradictions_at s (under_of known at e) (node_sliced e) (node_of place at))

  -- those of the elements from a place on, where this is known of the ones before
  abbrev pub found_from : List Known → ℕ → List Element → List (NodeRef × Contradiction)
  found_from known at [] = []
  found_from known at (e ∷ es) =
      found_at known at e ++ found_from (known ++ next_known known at e ∷ []) (suc at) es

  -- a definition that can't be used is passed over
  abbrev pub contradictions : List (NodeRef × Contradiction)
  contradictions = if is_usable s place then found_from [] 0 elements else []
