-- What is known of what an element stands under is known of the node of whose slot it is, or of whose slot's element it is a slice.
use Rattle.std.proofs.Common.{◌≡◌, ℕ, Bool, true, false, cond, List, [], ◌∷◌, nat_eq, get_or, Option, None, Some, IsTrue, refl, sym, ap, ◌∙◌, subst, option_map, option_and_then}
use Rattle.std.specs.List.{Contains, find, slice_get}
use Rattle.std.specs.Option.{option_map_or}
use Rattle.std.specs.Str.{bytes_eq}
use Rattle.std.proofs.lemmas.Bool.{false≢true, eqb-true}
use Rattle.std.proofs.lemmas.Option.{none-some, same_Some}
use Rattle.std.proofs.lemmas.Slice.Eq.{bytes_eq-Decides}
use Rattle.fhir_json.specs.Tree.{Text}
use Rattle.fhir_names.specs.Parents.{name_of}
use Rattle.fhir_elements.specs.Element.{Element}
use Rattle.fhir_definition.specs.Snapshot.{is_root, id_place, child_place, slice_place}
use Rattle.fhir_nodes.specs.declared.node.NodeRef.{NodeRef}
use Rattle.fhir_nodes.specs.Slots.{Slot}
use Rattle.fhir_schema.specs.Schemas.{SchemaValue, elements_at, slots, slices, slot_named, entry_of}
use Rattle.fhir_contradictions.specs.declared.known.Known.{Known}
use Rattle.fhir_contradictions.specs.Typing.{Under}
use Rattle.fhir_contradictions.specs.Listing.{unknown, known_at, node_of, unsliced, is_entry, above_of, under_of, node_sliced}
use Rattle.fhir_contradictions.proofs.Listed.{contains_first, contains_later}
use Rattle.further_laws.proofs.SlotPlaces.{IsChild, IsSlice, slot_of_child, slice_of_element, same_child, child_is_no_slice, root_has_no_front}

-- what is found is in the list, and passes the test
pub found_passes : {A : Type 0} (p : A → Bool) (xs : List A) (x : A) → find p xs ≡ Some x → Contains xs x × IsTrue (p x)
found_passes p [] x is = absurd (none-some x is)
found_passes {A} p (y ∷ ys) x is = by (p y) refl is (found_passes p ys x)
  where
    by : (b : Bool) → p y ≡ b → cond b (Some y) (find p ys) ≡ Some x → (find p ys ≡ Some x → Contains ys x × IsTrue (p x))
        → Contains (y ∷ ys) x × IsTrue (p x)
    by true passes f more =
        let same : y ≡ x = same_Some y x f in
        (contains_first y ys x same, sym (ap p same) ∙ passes)
    by false passes f more =
        let rest = more f in
        (contains_later y ys x rest.0, rest.1)

-- both parts of a pair that may be there
pair_there : (o : Option NodeRef) (name : Text) (u : Under) → option_map (λ (by : NodeRef). (by, name)) o ≡ Some u → (o ≡ Some u.0) × (name ≡ u.1)
pair_there None name u is = absurd (none-some u is)
pair_there (Some by) name u is =
    let same = same_Some {A = Under} (by, name) u is in
    (ap (λ (v : Under). Some v.0) same, ap (λ (v : Under). v.1) same)

module _ (s : SchemaValue) (place : ℕ) where
  abbrev es : List Element
  es = elements_at s place

  -- a slot of the definition is of a child
  pub child_here : (m : NodeRef) (slot : Slot) → m.definition ≡ place → Contains (slots s m) slot → IsChild es m.element slot
  child_here m slot there among = subst (λ (k : ℕ). IsChild (elements_at s k) m.element slot) there (slot_of_child s m slot among)

  -- and a slice of it of a slice of the slot's element
  pub slice_here : (m : NodeRef) (slot slice : Slot) → m.definition ≡ place → Contains (slices s (entry_of m slot)) slice → IsSlice es slot.entry slice
  slice_here m slot slice there among =
      subst (λ (k : ℕ). IsSlice (elements_at s k) slot.entry slice) there (slice_of_element s (entry_of m slot) slice among)

  -- the element at a place
  module _ (at : ℕ) (e : Element) (is : slice_get es at ≡ Some e) where
    -- it is the one that stands at a slot's entry, where the nodes are one
    entry_at : (slot : Slot) (n : NodeRef) (x : Element) → node_of place at ≡ n → n.element ≡ slot.entry → slice_get es slot.entry ≡ Some x → e ≡ x
    entry_at slot n x same entry there =
        same_Some e x (sym is ∙ ap (slice_get es) (ap (λ (k : NodeRef). k.element) same ∙ entry) ∙ there)

    -- that of a slot is a child
    pub element_child : (m : NodeRef) (slot : Slot) → m.definition ≡ place → Contains (slots s m) slot → node_of place at ≡ entry_of m slot
        → child_place es e ≡ Some m.element
    element_child m slot there among same =
        let c = child_here m slot there among in
        subst (λ (x : Element). child_place es x ≡ Some m.element) (sym (entry_at slot (entry_of m slot) c.element same refl c.at)) c.under

    -- and no slice, so it stands at the slot's entry itself
    pub element_entry : (m : NodeRef) (slot : Slot) → m.definition ≡ place → Contains (slots s m) slot → node_of place at ≡ entry_of m slot
        → unsliced s place at e ≡ slot.entry
    element_entry m slot there among same =
        ap (λ (o : Option ℕ). option_map_or (λ p. p) o at) (child_is_no_slice es e m.element (element_child m slot there among same))
        ∙ ap (λ (k : NodeRef). k.element) same

    -- that of a slice is one of the slot's element
    pub slice_sliced : (m : NodeRef) (slot slice : Slot) → m.definition ≡ place → Contains (slices s (entry_of m slot)) slice
        → node_of place at ≡ entry_of m slice → slice_place es e ≡ Some slot.entry
    slice_sliced m slot slice there among same =
        let c = slice_here m slot slice there among in
        subst (λ (x : Element). slice_place es x ≡ Some slot.entry) (sym (entry_at slice (entry_of m slice) c.element same refl c.at)) c.under

    -- so it stands, without its slice, at the slot's entry
    pub slice_entry : (m : NodeRef) (slot slice : Slot) → m.definition ≡ place → Contains (slices s (entry_of m slot)) slice
        → node_of place at ≡ entry_of m slice → unsliced s place at e ≡ slot.entry
    slice_entry m slot slice there among same =
        ap (λ (o : Option ℕ). option_map_or (λ p. p) o at) (slice_sliced m slot slice there among same)

    -- and the node that it slices is the slot's
    pub slice_node : (m : NodeRef) (slot slice : Slot) → m.definition ≡ place → Contains (slices s (entry_of m slot)) slice
        → node_of place at ≡ entry_of m slice → node_sliced s place e ≡ Some (entry_of m slot)
    slice_node m slot slice there among same =
        ap (option_map (node_of place)) (slice_sliced m slot slice there among same)
        ∙ ap (λ (k : ℕ). Some (node_of k slot.entry)) (sym there)

module _ (s : SchemaValue) (place : ℕ) (known : List Known) (at : ℕ) (e : Element) where
  -- what is known of the node of a slot is what is known of that under which an element stands; and it stands there under the slot's name
  pub record IsUnder (m : NodeRef) (slot : Slot) (u : Under) : Type 0 where
    pub typed_by : (get_or known m.element unknown).typed_by ≡ Some u.0
    pub name : u.1 ≡ slot.name

  module _ (m : NodeRef) (slot : Slot) (u : Under) (there : m.definition ≡ place) (among : Contains (slots s m) slot) (entry : unsliced s place at e ≡ slot.entry) where
    -- by the slot under which the element stands
    of_slot : (above : ℕ) (one : Slot) → slot_named s (node_of place above) (name_of e.id) ≡ Some one → one.entry ≡ unsliced s place at e
        → option_map (λ (by : NodeRef). (by, name_of e.id)) (get_or known above unknown).typed_by ≡ Some u → IsUnder m slot u
    of_slot above one named is known_is =
        let f = found_passes (λ (x : Slot). bytes_eq (name_of e.id) x.name) (slots s (node_of place above)) one named in
        let same = same_child (elements_at s place) above m.element one slot (slot_of_child s (node_of place above) one f.0) (child_here s place m slot there among)
        (is ∙ entry) in
        let pair = pair_there (get_or known above unknown).typed_by (name_of e.id) u known_is in
        record {
          typed_by = subst (λ (k : ℕ). (get_or known k unknown).typed_by ≡ Some u.0) same.0 pair.0;
          name = sym pair.1 ∙ (bytes_eq-Decides (name_of e.id) one.name).0 f.1 ∙ same.1;
        }

    -- by the slot that its name finds
    of_entry : (above : ℕ) (o : Option Slot) → slot_named s (node_of place above) (name_of e.id) ≡ o
        → IsTrue (option_map_or (λ (x : Slot). nat_eq x.entry (unsliced s place at e)) o false)
        → option_map (λ (by : NodeRef). (by, name_of e.id)) (get_or known above unknown).typed_by ≡ Some u → IsUnder m slot u
    of_entry above None named is known_is = absurd (false≢true is)
    of_entry above (Some one) named is known_is = of_slot above one named (eqb-true one.entry (unsliced s place at e) is) known_is

    -- by the element above
    of_above : (above : ℕ) (b : Bool) → is_entry s place at e above ≡ b
        → cond b (option_map (λ (by : NodeRef). (by, name_of e.id)) (get_or known above unknown).typed_by) None ≡ Some u → IsUnder m slot u
    of_above above false is known_is = absurd (none-some u known_is)
    of_above above true is known_is = of_entry above (slot_named s (node_of place above) (name_of e.id)) refl is known_is

    -- what an element stands under is the node of the slot
    pub under_slot : under_of s place known at e ≡ Some u → IsUnder m slot u
    under_slot = by (above_of s place e)
      where
        by : (o : Option ℕ)
            → option_and_then (λ above. cond (is_entry s place at e above) (option_map (λ (by : NodeRef). (by, name_of e.id)) (known_at known (Some above)).typed_by) None) o ≡ Some u
            → IsUnder m slot u
        by None is = absurd (none-some u is)
        by (Some above) is = of_above above (is_entry s place at e above) refl is

  -- a root stands under nothing
  pub root_under : IsTrue (is_root e) → under_of s place known at e ≡ None
  root_under root =
      ap (λ (o : Option Text). option_and_then
      (λ above. cond (is_entry s place at e above) (option_map (λ (by : NodeRef). (by, name_of e.id)) (known_at known (Some above)).typed_by) None)
      (option_and_then (id_place (elements_at s place)) o)) (root_has_no_front e root)
