use Rattle.std.proofs.Common.{◌≡◌, ℕ, Some, IsTrue}
use Rattle.fhir_json.specs.Tree.{Tree}
use Rattle.fhir_package.specs.Definitions.{Definitions}
use Rattle.fhir_nodes.specs.declared.node.NodeRef.{NodeRef}
use Rattle.fhir_schema.specs.Schemas.{schema_of, root_in}
use Rattle.fhir_instance.specs.Items.{Item}
use Rattle.fhir_instance.specs.Typing.{Types}
use Rattle.fhir_conformance.specs.Conformance.{Interpretation, Around, conforms}
use Rattle.fhir_contradictions.specs.Typing.{IsTypedIfKnown}
use Rattle.fhir_contradictions.specs.Parts.{IsPartOf}
use Rattle.fhir_contradictions.specs.Regular.{typed_at_root}
use Rattle.further_laws.proofs.Taken.{Taken}
use Rattle.further_laws.proofs.TypedRoots.{root_typed, standing_part}
use Rattle.further_laws.proofs.NeverHeld.{no_item, no_parent}
use Rattle.further_laws.proofs.contradictions.never_held.Goals as goal

pub returns : goal.returns
returns c = record {
  items = λ p meaning around t x y z place root n f sounds types part is holds has spares st.
      no_item (schema_of p) meaning (taken p meaning) around y place root n f is (typed p meaning around t x y place root types part is holds) holds has spares z st
      (c.sound_parts.ensures (schema_of p) t x z sounds types (standing_part (schema_of p) root x y part n z st));
  parents = λ p meaning around t x y z place root m n f types part is holds has refuses st below.
      no_parent (schema_of p) meaning (taken p meaning) around y place root n f is (typed p meaning around t x y place root types part is holds) holds has refuses m z st below;
}
  where
    typed : (p : Definitions) (meaning : Interpretation) (around : Around) (t : Tree) (x y : Item) (place : ℕ) (root : NodeRef) → Types (schema_of p) t x
        → IsPartOf x y → root_in (schema_of p) place ≡ Some root → IsTrue (conforms (schema_of p) meaning around y root)
        → IsTypedIfKnown (schema_of p) (typed_at_root (schema_of p) root) y
    typed p meaning around t x y place root types part is holds =
        root_typed (schema_of p) (c.least_closed.ensures.placed p) meaning around y place root (c.regular_types.ensures p t x y types part) is holds

    taken : (p : Definitions) (meaning : Interpretation) → Taken (schema_of p) meaning
    taken p meaning = record {
      children_apart = c.names_apart.ensures.children p;
      slices_apart = c.names_apart.ensures.slices p;
      at_element = c.conforming_children.ensures.element (schema_of p) meaning;
      at_slice = c.conforming_children.ensures.slice (schema_of p) meaning;
      usable_below = c.usable_nodes.ensures.below p;
      typed_below = c.typed_items.ensures.below p meaning;
      lacking = c.required_types.ensures.element p meaning;
      lacking_slice = c.required_types.ensures.slice p meaning;
      missing_type = c.fixed_types.ensures p meaning;
      asking_too_many = c.slices_together.ensures (schema_of p) meaning;
      of_other_types = c.slice_types.ensures (schema_of p) meaning;
      of_other_value = c.slice_values.ensures p meaning;
      of_fixed_value = c.fixed_values.ensures (schema_of p) meaning;
    }
