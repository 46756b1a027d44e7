-- Which items of a resource stand at which elements of a profile (FHIR R4, ElementDefinition, id; Profiling, slicing).
use Rattle.std.specs.Prelude.{◌≡◌, Bool, true, false, IsTrue}
use Rattle.std.specs.List.{Contains}
use Rattle.fhir_nodes.specs.declared.node.NodeRef.{NodeRef}
use Rattle.fhir_nodes.specs.Slots.{Slot}
use Rattle.fhir_schema.specs.Schemas.{SchemaValue, slots, slices, entry_of, criteria}
use Rattle.fhir_instance.specs.Items.{Item, kids_of}
use Rattle.fhir_slicing.specs.Belonging.{belongs}
use Rattle.fhir_contradictions.specs.declared.contradiction.Contradiction.{Contradiction}
use Rattle.fhir_contradictions.specs.declared.contradiction.Contradiction.TheVariants as found
use Rattle.fhir_contradictions.specs.Typing.{children_of}

-- The item is a child of another, under the name of an element below the node at which that one stands.
pub record IsBelow (s : SchemaValue) (m : NodeRef) (z : Item) (slot : Slot) (y : Item) : Type 0 where
  pub among : Contains (slots s m) slot
  pub child : Contains (children_of (kids_of z)) (slot.name, y)

-- Where the resource x stands at the root: x itself at the root; a child of an item at the element of its name, below the one where its parent
-- stands; and at each slice of that element to which it belongs.
pub data StandsAt (s : SchemaValue) (root : NodeRef) (x : Item) : NodeRef → Item → Type 0 where
  itself : {n : NodeRef} {y : Item} → n ≡ root → y ≡ x → StandsAt s root x n y
  below : {n m : NodeRef} {y z : Item} (slot : Slot) → StandsAt s root x m z → IsBelow s m z slot y → n ≡ entry_of m slot → StandsAt s root x n y
  in_slice : {n m : NodeRef} {y z : Item} (slot slice : Slot) → StandsAt s root x m z → IsBelow s m z slot y
      → Contains (slices s (entry_of m slot)) slice → n ≡ entry_of m slice → IsTrue (belongs s (criteria s n) y) → StandsAt s root x n y

-- the node is that of an element below another one, or of a slice of such
pub data IsPart (s : SchemaValue) (m : NodeRef) : NodeRef → Type 0 where
  an_element : {n : NodeRef} (slot : Slot) → Contains (slots s m) slot → n ≡ entry_of m slot → IsPart s m n
  a_slice : {n : NodeRef} (slot slice : Slot) → Contains (slots s m) slot → Contains (slices s (entry_of m slot)) slice → n ≡ entry_of m slice → IsPart s m n

-- What is told is that no item can stand at the element above, since something has to be there and can't; else it is that none can stand at the
-- element itself.
abbrev pub refuses_parents : Contradiction → Bool
refuses_parents found.NoType = true
refuses_parents found.TooManySliced = true
refuses_parents found.FixedType = false
refuses_parents found.OtherTypes = false
refuses_parents found.OtherValue = false
refuses_parents found.FixedPattern = false
refuses_parents found.FixedLength = false
refuses_parents found.FixedRange = false
refuses_parents found.FixedBinding = false
