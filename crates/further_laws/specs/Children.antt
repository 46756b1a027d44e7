-- What a node asks of the children of an item, name by name (FHIR R4, ElementDefinition, min, max; Profiling, slicing).
use Rattle.std.specs.Prelude.{ℕ, suc, List, [], ◌∷◌, filter, map, length, Bool, true, not, ◌&&◌, ◌||◌, Option, if◌then◌else◌}
use Rattle.std.specs.Option.{option_map, option_map_or}
use Rattle.std.specs.List.{list_all}
use Rattle.std.specs.Str.{bytes_eq}
use Rattle.fhir_json.specs.Tree.{Text}
use Rattle.fhir_json.specs.Bytes.{is_empty}
use Rattle.fhir_nodes.specs.declared.node.NodeRef.{NodeRef}
use Rattle.fhir_nodes.specs.Slots.{Slot}
use Rattle.fhir_schema.specs.Schemas.{SchemaValue, slots, slices, criteria, entry_of, is_closed, holder}
use Rattle.fhir_instance.specs.Items.{Item, Kids, no_kids, kid, kids_of}
use Rattle.fhir_facets.specs.Cardinality.{are_enough, are_within}
use Rattle.fhir_facets.specs.Order.{is_ordered, is_open_at_end, are_in_order, is_rest_last}
use Rattle.fhir_slicing.specs.Belonging.{belongs, slice_of, is_apart, is_sliced}
use Rattle.fhir_conformance.specs.Conformance.{Interpretation, Around, inside, below, at_element, conforms}

-- a child of an item, and where it stands
pub record Child : Type 0 where
  pub itself : Item
  pub around : Around

-- those of a name, of children whose positions begin at a number
abbrev pub children_from : Around → ℕ → Text → Kids → List Child
children_from around i name no_kids = []
children_from around i name (kid other x kids) =
    if bytes_eq name other then record { itself = x; around = below around i } ∷ children_from around (suc i) name kids
    else children_from around (suc i) name kids

-- so many are enough, and not too many
abbrev pub number_holds : SchemaValue → NodeRef → ℕ → Bool
number_holds s n count = at_element s (λ e. are_enough e count) n && at_element s (λ e. are_within e count) n

module _ (s : SchemaValue) (meaning : Interpretation) where
  abbrev pub child_conforms : NodeRef → Child → Bool
  child_conforms n c = conforms s meaning c.around c.itself n

  -- those that belong to a slice conform to it, and are enough, and not too many
  abbrev pub slice_holds : List Child → NodeRef → Slot → Bool
  slice_holds cs n slice =
      list_all (child_conforms (entry_of n slice)) (filter (λ c. belongs s (criteria s (entry_of n slice)) c.itself) cs)
      && number_holds s (entry_of n slice) (length (filter (λ c. belongs s (criteria s (entry_of n slice)) c.itself) cs))

  -- where the first slice that each child is in stands in the definition
  abbrev pub slice_places : NodeRef → List Child → List (Option ℕ)
  slice_places n cs = map (λ c. option_map (λ slice. slice.entry) (slice_of s n c.itself)) cs

  -- the children stand in the order of the slices, if the slicing is ordered, and those in none behind the others, if it is open at
  -- its end
  abbrev pub sequence_holds : List Child → NodeRef → Bool
  sequence_holds cs n =
      (not (is_ordered s n) || are_in_order (slice_places n cs)) && (not (is_open_at_end s n) || is_rest_last (slice_places n cs))

  -- no child is in two slices, each slice holds, each child is in one, if the slicing is closed, and they stand as it says
  abbrev pub slices_hold : List Child → NodeRef → Bool
  slices_hold cs n =
      is_empty (slices s n)
      || (list_all (λ c. is_apart s n c.itself) cs
      && (list_all (slice_holds cs n) (slices s n)
      && ((not (is_closed s n) || list_all (λ c. is_sliced s n c.itself) cs) && sequence_holds cs n)))

  -- the children of a name are enough, and not too many; each conforms to the element of the name; and its slices hold
  abbrev pub element_holds : List Child → NodeRef → Bool
  element_holds cs n = number_holds s n (length cs) && (list_all (child_conforms n) cs && slices_hold cs n)

  abbrev pub slot_holds : Around → Item → NodeRef → Slot → Bool
  slot_holds around x h slot = element_holds (children_from (inside s around x) 0 slot.name (kids_of x)) (entry_of h slot)

  -- the same of each name that the node's children may have
  abbrev pub slots_hold : Around → Item → NodeRef → Bool
  slots_hold around x n = option_map_or (λ h. list_all (slot_holds around x h) (slots s h)) (holder s n) true
