-- What stands at a node conforms to it, and where in the definition the node is.
use Rattle.std.proofs.Common.{◌≡◌, ℕ, Bool, true, false, cond, List, [], ◌∷◌, length, nat_eq, Option, None, Some, IsTrue, refl, sym, ap, ◌∙◌, subst, option_map, arith}
use Rattle.std.specs.List.{Contains, slice_get}
use Rattle.std.specs.Option.{option_or}
use Rattle.std.proofs.lemmas.Bool.{eqb-true, false_from_ne_true}
use Rattle.std.proofs.lemmas.Option.{none-some, same_Some, get_or_from_slice_get}
use Rattle.std.proofs.lemmas.List.Quantifiers.{position-Some}
use Rattle.fhir_elements.specs.Element.{Element}
use Rattle.fhir_definition.specs.Snapshot.{is_root}
use Rattle.fhir_nodes.specs.declared.node.NodeRef.{NodeRef}
use Rattle.fhir_nodes.specs.Slots.{Slot}
use Rattle.fhir_schema.specs.Schemas.{SchemaValue, is_usable, elements_at, root_element, root_in, slots, slices, entry_of, target, holder, criteria}
use Rattle.fhir_instance.specs.Items.{Item}
use Rattle.fhir_slicing.specs.Belonging.{belongs}
use Rattle.fhir_conformance.specs.Conformance.{Interpretation, Around, conforms}
use Rattle.fhir_contradictions.specs.Children.{Conforming, ConformingBoth}
use Rattle.fhir_contradictions.specs.Listing.{node_of}
use Rattle.fhir_contradictions.proofs.Listed.{contains_none}
use Rattle.further_laws.specs.Standing.{IsBelow, StandsAt, itself, below, in_slice}
use Rattle.further_laws.proofs.Taken.{Taken}

-- a node with children of its own has them itself
pub own_holder : (s : SchemaValue) (m : NodeRef) (slot : Slot) → Contains (slots s m) slot → holder s m ≡ Some m
own_holder s m slot = by (slots s m)
  where
    by : (xs : List Slot) → Contains xs slot → option_or (cond (nat_eq (length xs) 0) None (Some m)) (target s m) ≡ Some m
    by [] has = absurd (contains_none slot has)
    by (y ∷ ys) has =
        let some : nat_eq (length (y ∷ ys)) 0 ≡ false =
        false_from_ne_true (nat_eq (length (y ∷ ys)) 0) (λ e. omega (arith, eqb-true (length (y ∷ ys)) 0 e)) in
        ap (λ (b : Bool). option_or (cond b None (Some m)) (target s m)) some

-- ---- the root of the definition

-- where that is, in a definition that can be used
pub record IsRootOf (s : SchemaValue) (place : ℕ) (root : NodeRef) : Type 0 where
  pub usable : is_usable s place ≡ true
  pub element : root_element s place ≡ Some root.element
  pub definition : root.definition ≡ place

pub root_of : (s : SchemaValue) (place : ℕ) (root : NodeRef) → root_in s place ≡ Some root → IsRootOf s place root
root_of s place root = by (is_usable s place) (root_element s place) refl refl
  where
    by : (b : Bool) (o : Option ℕ) → is_usable s place ≡ b → root_element s place ≡ o
        → cond b (option_map (λ (e : ℕ). record { definition = place; element = e }) o) None ≡ Some root → IsRootOf s place root
    by false o usable element is = absurd (none-some root is)
    by true None usable element is = absurd (none-some root is)
    by true (Some k) usable element is =
        let same : node_of place k ≡ root = same_Some (node_of place k) root is in
        record {
          usable = usable;
          element = element ∙ ap (λ (n : NodeRef). Some n.element) same;
          definition = sym (ap (λ (n : NodeRef). n.definition) same);
        }

-- the element there is a root
pub is_root_there : (s : SchemaValue) (place at : ℕ) (e : Element) → root_element s place ≡ Some at → slice_get (elements_at s place) at ≡ Some e → IsTrue (is_root e)
is_root_there s place at e root is =
    subst (λ (x : Element). IsTrue (is_root x)) (get_or_from_slice_get (elements_at s place) at e e is)
    (position-Some is_root (elements_at s place) at e root).1

-- ---- what stands at a node

module _ (s : SchemaValue) (meaning : Interpretation) (laws : Taken s meaning) (root : NodeRef) (x : Item) where
  -- the node is of the root's definition
  pub definition_is : (n : NodeRef) (y : Item) → StandsAt s root x n y → n.definition ≡ root.definition
  definition_is n y (itself e f) = ap (λ (k : NodeRef). k.definition) e
  definition_is n y (below {m = m} {z = z} slot st b e) = ap (λ (k : NodeRef). k.definition) e ∙ definition_is m z st
  definition_is n y (in_slice {m = m} {z = z} slot slice st b among e belonging) = ap (λ (k : NodeRef). k.definition) e ∙ definition_is m z st

  -- what is below an item that conforms, at an element
  element_conforms : (m n : NodeRef) (y z : Item) (slot : Slot) → Conforming s meaning z m → IsBelow s m z slot y → n ≡ entry_of m slot → Conforming s meaning y n
  element_conforms m n y z slot c b e =
      subst (λ (k : NodeRef). Conforming s meaning y k) (sym e)
      (laws.at_element c.around z y m m slot c.holds (own_holder s m slot b.among) b.among b.child)

  -- and at a slice of it
  pub slice_conforms : (m n : NodeRef) (y z : Item) (slot slice : Slot) → Conforming s meaning z m → IsBelow s m z slot y
      → Contains (slices s (entry_of m slot)) slice → n ≡ entry_of m slice → IsTrue (belongs s (criteria s n) y)
      → ConformingBoth s meaning y (entry_of m slot) n
  slice_conforms m n y z slot slice c b among e belonging =
      subst (λ (k : NodeRef). ConformingBoth s meaning y (entry_of m slot) k) (sym e)
      (laws.at_slice c.around z y m m slot slice c.holds (own_holder s m slot b.among) b.among b.child among
      (subst (λ (k : NodeRef). IsTrue (belongs s (criteria s k) y)) e belonging))

  -- what conforms to both conforms to the slice
  other_of : (y : Item) (m n : NodeRef) → ConformingBoth s meaning y m n → Conforming s meaning y n
  other_of y m n c = record { around = c.around; holds = c.holds_other }

  module _ (around : Around) (holds : IsTrue (conforms s meaning around x root)) where
    -- what stands at a node conforms to it
    pub standing_conforms : (n : NodeRef) (y : Item) → StandsAt s root x n y → Conforming s meaning y n
    standing_conforms n y (itself e f) = record {
      around = around;
      holds = subst (λ (k : NodeRef). IsTrue (conforms s meaning around y k)) (sym e)
          (subst (λ (z : Item). IsTrue (conforms s meaning around z root)) (sym f) holds);
    }
    standing_conforms n y (below {m = m} {z = z} slot st b e) = element_conforms m n y z slot (standing_conforms m z st) b e
    standing_conforms n y (in_slice {m = m} {z = z} slot slice st b among e belonging) =
        other_of y (entry_of m slot) n (slice_conforms m n y z slot slice (standing_conforms m z st) b among e belonging)
