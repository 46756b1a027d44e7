-- The elements below another, and its slices, by their ids.
use Rattle.std.proofs.Common.{◌≡◌, ◌↔◌, ◌<◌, ℕ, List, [], map, filter, length, get_or, Some, IsTrue, refl, sym, ap, subst, ◌∙◌}
use Rattle.std.specs.List.{slice_get, Contains}
use Rattle.fhir_definition.specs.Snapshot.{child_place, slice_place}
use Rattle.fhir_definition.specs.Children.{children_of, slices_of as slice_places}
use Rattle.fhir_definition.specs.Standing.{StandsUnder, AreUnderEach}
use Rattle.fhir_definition.specs.Definition.{Definition}
use Rattle.fhir_nodes.specs.declared.node.NodeRef.{NodeRef}
use Rattle.fhir_nodes.specs.Slots.{Slot, slot_at, slice_at, is_slot, slots_under, slots_of, slices_of}
use Rattle.fhir_schema.specs.Schemas.{SchemaValue, slots, slices}
use Rattle.conformance_laws.proofs.Lists.{kept, keeps, mapped, maps, at_place, at_any}

module _ (s : SchemaValue) (n : NodeRef) (d : Definition) (is : slice_get s.definitions n.definition ≡ Some d) (slot : Slot) where
  -- the places of those that stand under the node
  abbrev places : List ℕ
  places = get_or (children_of d.elements) n.element []

  abbrev slice_list : List ℕ
  slice_list = get_or (slice_places d.elements) n.element []

  slots_there : slots s n ≡ slots_under s.definitions d places
  slots_there =
      ap (λ (lists : List (List Slot)). get_or lists n.element []) (at_place (slots_of s.definitions) s.definitions n.definition d is)
      ∙ at_any (slots_under s.definitions d) refl (children_of d.elements) n.element

  slices_there : slices s n ≡ map (slice_at d.elements) slice_list
  slices_there =
      ap (λ (lists : List (List Slot)). get_or lists n.element []) (at_place (λ (e : Definition). slices_of e.elements) s.definitions n.definition d is)
      ∙ at_any (map (slice_at d.elements)) refl (slice_places d.elements) n.element

  module _ (below : n.element < length d.elements) where
    abbrev pub IsChild : Type 0
    IsChild =
        (place : ℕ) × (StandsUnder (child_place d.elements) d.elements place n.element) × IsTrue (is_slot s.definitions d place)
        × (slot ≡ slot_at d.elements place)

    abbrev pub IsSlice : Type 0
    IsSlice = (place : ℕ) × (StandsUnder (slice_place d.elements) d.elements place n.element) × (slot ≡ slice_at d.elements place)

    pub children_are : AreUnderEach (child_place d.elements) d.elements (children_of d.elements) → Contains (slots s n) slot ↔ IsChild
    children_are under = (there, back)
      where
        there : Contains (slots s n) slot → IsChild
        there among =
            let it = mapped (slot_at d.elements) (filter (is_slot s.definitions d) places) slot (subst (λ (xs : List Slot). Contains xs slot) slots_there among) in
            let one = kept (is_slot s.definitions d) places it.0 it.1 in
            (it.0, (under n.element it.0 below).0 one.0, one.1, it.2)

        back : IsChild → Contains (slots s n) slot
        back it =
            subst (λ (xs : List Slot). Contains xs slot) (sym slots_there)
            (maps (slot_at d.elements) (filter (is_slot s.definitions d) places) it.0 slot
            (keeps (is_slot s.definitions d) places it.0 ((under n.element it.0 below).1 it.1) it.2) it.3)

    pub slices_are : AreUnderEach (slice_place d.elements) d.elements (slice_places d.elements) → Contains (slices s n) slot ↔ IsSlice
    slices_are under = (there, back)
      where
        there : Contains (slices s n) slot → IsSlice
        there among =
            let it = mapped (slice_at d.elements) slice_list slot (subst (λ (xs : List Slot). Contains xs slot) slices_there among) in
            (it.0, (under n.element it.0 below).0 it.1, it.2)

        back : IsSlice → Contains (slices s n) slot
        back it =
            subst (λ (xs : List Slot). Contains xs slot) (sym slices_there)
            (maps (slice_at d.elements) slice_list it.0 slot ((under n.element it.0 below).1 it.1) it.2)
