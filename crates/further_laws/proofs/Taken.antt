-- The laws of elements that the law over a resource takes, of one schema and one meaning of the unread rules.
use Rattle.std.proofs.Common.{◌≡◌, Option, Some, IsTrue}
use Rattle.std.specs.List.{Contains}
use Rattle.fhir_json.specs.Tree.{Text}
use Rattle.fhir_nodes.specs.declared.node.NodeRef.{NodeRef}
use Rattle.fhir_nodes.specs.Slots.{Slot}
use Rattle.fhir_schema.specs.Schemas.{SchemaValue, has, slots, slices, entry_of, holder, criteria}
use Rattle.fhir_instance.specs.Items.{Item, kids_of}
use Rattle.fhir_slicing.specs.Belonging.{belongs}
use Rattle.fhir_conformance.specs.Conformance.{Interpretation, Around, conforms}
use Rattle.fhir_contradictions.specs.declared.contradiction.Contradiction.{Contradiction}
use Rattle.fhir_contradictions.specs.Typing.{IsTypedBy, IsTypedIfKnown, children_of, typed_under}
use Rattle.fhir_contradictions.specs.Contradictions.{IsSoundValue, names_differ, lacks_type, misses_type, fixed_misses, asks_too_many, has_other_types, has_other_value, fixed_contradictions}
use Rattle.fhir_contradictions.specs.Children.{Conforming, ConformingBoth}

pub record Taken (s : SchemaValue) (meaning : Interpretation) : Type 0 where
  -- names of children and of slices differ
  pub children_apart : (n : NodeRef) → IsTrue (has s n) → IsTrue (names_differ (slots s n))
  pub slices_apart : (n : NodeRef) → IsTrue (has s n) → IsTrue (names_differ (slices s n))
  -- children conform to the elements of their names, and to the slices to which they belong
  pub at_element : (around : Around) (x y : Item) (n h : NodeRef) (slot : Slot)
      → IsTrue (conforms s meaning around x n) → holder s n ≡ Some h → Contains (slots s h) slot
      → Contains (children_of (kids_of x)) (slot.name, y) → Conforming s meaning y (entry_of h slot)
  pub at_slice : (around : Around) (x y : Item) (n h : NodeRef) (slot slice : Slot)
      → IsTrue (conforms s meaning around x n) → holder s n ≡ Some h → Contains (slots s h) slot
      → Contains (children_of (kids_of x)) (slot.name, y) → Contains (slices s (entry_of h slot)) slice
      → IsTrue (belongs s (criteria s (entry_of h slice)) y) → ConformingBoth s meaning y (entry_of h slot) (entry_of h slice)
  -- what types an item's children
  pub usable_below : (by inside n : NodeRef) (name : Text) → IsTrue (has s by) → typed_under s by name n ≡ Some inside → IsTrue (has s inside)
  pub typed_below : (around : Around) (x y : Item) (by inside n : NodeRef) (name : Text) → IsTrue (names_differ (slots s by)) → IsTypedBy s by x
      → Contains (children_of (kids_of x)) (name, y) → IsTrue (conforms s meaning around y n) → typed_under s by name n ≡ Some inside
      → IsTypedBy s inside y
  -- each sort of contradiction
  pub lacking : (around : Around) (x : Item) (by n h : NodeRef) (slot : Slot) → IsTrue (names_differ (slots s by)) → IsTypedBy s by x
      → holder s n ≡ Some h → Contains (slots s h) slot → IsTrue (lacks_type s by slot.name (entry_of h slot))
      → IsTrue (conforms s meaning around x n) → ⊥
  pub lacking_slice : (around : Around) (x : Item) (by n h : NodeRef) (slot slice : Slot) → IsTrue (names_differ (slots s by)) → IsTypedBy s by x
      → holder s n ≡ Some h → Contains (slots s h) slot → Contains (slices s (entry_of h slot)) slice
      → IsTrue (lacks_type s by slot.name (entry_of h slice)) → IsTrue (conforms s meaning around x n) → ⊥
  pub missing_type : (around : Around) (x y : Item) (by n : NodeRef) (name : Text) → IsTrue (names_differ (slots s by)) → IsTypedBy s by x
      → Contains (children_of (kids_of x)) (name, y) → IsTrue (fixed_misses (λ e. misses_type s by name n) s n)
      → IsTrue (conforms s meaning around y n) → ⊥
  pub asking_too_many : (around : Around) (x : Item) (n h : NodeRef) (slot : Slot) → holder s n ≡ Some h → Contains (slots s h) slot
      → IsTrue (names_differ (slices s (entry_of h slot))) → IsTrue (asks_too_many s (entry_of h slot)) → IsTrue (conforms s meaning around x n) → ⊥
  pub of_other_types : (around : Around) (x : Item) (n slice : NodeRef) → IsTrue (has_other_types s n slice)
      → IsTrue (conforms s meaning around x n) → IsTrue (conforms s meaning around x slice) → ⊥
  pub of_other_value : (around : Around) (x : Item) (by : Option NodeRef) (n slice : NodeRef) → IsTypedIfKnown s by x
      → IsTrue (has_other_value s by n slice) → IsTrue (belongs s (criteria s slice) x)
      → IsTrue (conforms s meaning around x n) → IsTrue (conforms s meaning around x slice) → ⊥
  pub of_fixed_value : (around : Around) (x : Item) (n : NodeRef) (c : Contradiction) → IsSoundValue x → Contains (fixed_contradictions s n) c
      → IsTrue (conforms s meaning around x n) → ⊥
