-- The slots of a node are of the children of its element, and its slices are of the slices of that.
use Rattle.std.proofs.Common.{◌≡◌, ◌<◌, ℕ, zero, suc, cond, List, [], ◌∷◌, map, length, get_or, take, ◌+◌, ◌-◌, Option, None, Some, is_some, is_none, IsTrue, refl, sym, ap, ◌∙◌, subst, arith, option_map, option_and_then}
use Rattle.std.specs.List.{slice_get, Contains, filter}
use Rattle.std.specs.Option.{option_map_or}
use Rattle.std.proofs.lemmas.Bool.{false≢true}
use Rattle.std.proofs.lemmas.Option.{none-some, same_Some, slice_get_within, get_or_from_slice_get}
use Rattle.std.proofs.lemmas.List.{length-map}
use Rattle.fhir_json.specs.Tree.{Text}
use Rattle.fhir_names.specs.Parents.{front_of, name_of, slice_of}
use Rattle.fhir_elements.specs.Element.{Element}
use Rattle.fhir_definition.specs.Snapshot.{id_place, is_root, child_place, slice_place}
use Rattle.fhir_definition.specs.Children.{under_each, under_each_from, children_of, slices_of as slice_places}
use Rattle.fhir_definition.specs.Standing.{StandsUnder}
use Rattle.fhir_definition.specs.Definition.{Definition}
use Rattle.fhir_definition.proofs.Under.{are_under_each}
use Rattle.fhir_nodes.specs.declared.node.NodeRef.{NodeRef}
use Rattle.fhir_nodes.specs.Slots.{Slot, slot_at, slice_at, is_slot, slots_under, slots_of, slices_of}
use Rattle.fhir_schema.specs.Schemas.{SchemaValue, elements_at, slots, slices}
use Rattle.fhir_contradictions.proofs.Listed.{contains_none, from_filter, from_map}

-- ---- lists by places

-- what is said of the list that a map has at a place, and not of the empty one, is said of the list of the element there
from_place : {A B : Type 0} (f : A → List B) (P : List B → Type 0) → (P [] → ⊥) → (xs : List A) (k : ℕ) → P (get_or (map f xs) k [])
    → (x : A) × (slice_get xs k ≡ Some x) × P (f x)
from_place f P none [] k h = absurd (none h)
from_place f P none (x ∷ xs) zero h = (x, refl, h)
from_place f P none (x ∷ xs) (suc k) h = from_place f P none xs k h

-- there are as many lists of places as elements
each_length : (p n : ℕ) (ups : List (Option ℕ)) → length (under_each_from p n ups) ≡ n
each_length p zero ups = refl
each_length p (suc n) ups = omega (arith, each_length (suc p) n ups)

-- the element at a place of such a list stands under the list's
under_at : (f : Element → Option ℕ) (es : List Element) (over : ℕ) (ks : List ℕ) (k : ℕ) → slice_get (under_each (map f es)) over ≡ Some ks
    → Contains ks k → StandsUnder f es k over
under_at f es over ks k at has =
    let lists : List (List ℕ) = under_each (map f es) in
    let within : over < length es =
    omega (arith, slice_get_within lists over ks at, each_length 0 (length (map f es)) (map f es), length-map es f) in
    (are_under_each f es over k within).0 (subst (λ (l : List ℕ). Contains l k) (sym (get_or_from_slice_get lists over ks [] at)) has)

-- ---- slots and slices

-- a slot is of an element that is a child of the one at a place
pub record IsChild (es : List Element) (over : ℕ) (slot : Slot) : Type 0 where
  pub element : Element
  pub at : slice_get es slot.entry ≡ Some element
  pub under : child_place es element ≡ Some over
  pub name : slot.name ≡ name_of element.id

-- it is of one that is a slice of that
pub record IsSlice (es : List Element) (over : ℕ) (slice : Slot) : Type 0 where
  pub element : Element
  pub at : slice_get es slice.entry ≡ Some element
  pub under : slice_place es element ≡ Some over

-- the slot of an element that stands under another as its child
child_of : (es : List Element) (over : ℕ) (slot : Slot) (k : ℕ) → slot_at es k ≡ slot → StandsUnder (child_place es) es k over → IsChild es over slot
child_of es over slot k is u = record {
  element = u.0;
  at = ap (slice_get es) (sym (ap (λ (x : Slot). x.entry) is)) ∙ u.1;
  under = u.2;
  name = sym (ap (λ (x : Slot). x.name) is) ∙ ap (λ (o : Option Element). name_of (option_map_or (λ (e : Element). e.id) o [])) u.1;
}

-- and the one of an element that does as its slice
slice_of_place : (es : List Element) (over : ℕ) (slice : Slot) (k : ℕ) → slice_at es k ≡ slice → StandsUnder (slice_place es) es k over
    → IsSlice es over slice
slice_of_place es over slice k is u = record {
  element = u.0;
  at = ap (slice_get es) (sym (ap (λ (x : Slot). x.entry) is)) ∙ u.1;
  under = u.2;
}

module _ (s : SchemaValue) (n : NodeRef) (slot : Slot) where
  -- each slot of a node is of a child of its element
  pub slot_of_child : Contains (slots s n) slot → IsChild (elements_at s n.definition) n.element slot
  slot_of_child has =
      let ds : List Definition = s.definitions in
      let g = from_place (slots_of ds) (λ (l : List (List Slot)). Contains (get_or l n.element []) slot) (contains_none slot) ds n.definition has in
      let d : Definition = g.0 in
      let h = from_place (slots_under ds d) (λ (l : List Slot). Contains l slot) (contains_none slot) (children_of d.elements) n.element g.2 in
      let m = from_map (slot_at d.elements) (filter (is_slot ds d) h.0) slot h.2 in
      let same : elements_at s n.definition ≡ d.elements = ap (λ (o : Option Definition). option_map_or (λ (d : Definition). d.elements) o []) g.1 in
      subst (λ (es : List Element). IsChild es n.element slot) (sym same)
      (child_of d.elements n.element slot m.from m.is
      (under_at (child_place d.elements) d.elements n.element h.0 m.from h.1 (from_filter (is_slot ds d) h.0 m.from m.among)))

  -- each slice of a node is of a slice of its element
  pub slice_of_element : Contains (slices s n) slot → IsSlice (elements_at s n.definition) n.element slot
  slice_of_element has =
      let ds : List Definition = s.definitions in
      let g = from_place (λ (d : Definition). slices_of d.elements) (λ (l : List (List Slot)). Contains (get_or l n.element []) slot) (contains_none slot) ds
      n.definition has in
      let d : Definition = g.0 in
      let h = from_place (λ (places : List ℕ). map (slice_at d.elements) places) (λ (l : List Slot). Contains l slot) (contains_none slot) (slice_places d.elements)
      n.element g.2 in
      let m = from_map (slice_at d.elements) h.0 slot h.2 in
      let same : elements_at s n.definition ≡ d.elements = ap (λ (o : Option Definition). option_map_or (λ (d : Definition). d.elements) o []) g.1 in
      subst (λ (es : List Element). IsSlice es n.element slot) (sym same)
      (slice_of_place d.elements n.element slot m.from m.is (under_at (slice_place d.elements) d.elements n.element h.0 m.from h.1 m.among))

-- one element is the child of one other alone, and has one name
pub same_child : (es : List Element) (one other : ℕ) (slot more : Slot) → IsChild es one slot → IsChild es other more → slot.entry ≡ more.entry
    → (one ≡ other) × (slot.name ≡ more.name)
same_child es one other slot more a b entry =
    let same : a.element ≡ b.element = same_Some a.element b.element (sym a.at ∙ ap (slice_get es) entry ∙ b.at) in (
      same_Some one other (sym a.under ∙ ap (child_place es) same ∙ b.under),
      a.name ∙ ap (λ (e : Element). name_of e.id) same ∙ sym b.name,
    )

-- ---- roots

module _ (es : List Element) (e : Element) (over : ℕ) where
  -- a root is no child of another element
  pub root_is_no_child : IsTrue (is_root e) → child_place es e ≡ Some over → ⊥
  root_is_no_child = by (slice_of e.id) (front_of e.id)
    where
      by : (slice front : Option Text)
          → IsTrue (is_none (cond (is_some slice) (option_map (λ s. take (length e.id - (length s + 1)) e.id) slice) front))
          → cond (is_some slice) None (option_and_then (id_place es) front) ≡ Some over → ⊥
      by (Some w) front root under = none-some over under
      by None None root under = none-some over under
      by None (Some f) root under = false≢true root

  -- and no slice of another
  pub root_is_no_slice : IsTrue (is_root e) → slice_place es e ≡ Some over → ⊥
  root_is_no_slice = by (slice_of e.id)
    where
      by : (slice : Option Text)
          → IsTrue (is_none (cond (is_some slice) (option_map (λ s. take (length e.id - (length s + 1)) e.id) slice) (front_of e.id)))
          → option_and_then (id_place es) (option_map (λ s. take (length e.id - (length s + 1)) e.id) slice) ≡ Some over → ⊥
      by (Some w) root under = false≢true root
      by None root under = none-some over under

  -- a child of an element is no slice
  pub child_is_no_slice : child_place es e ≡ Some over → slice_place es e ≡ None
  child_is_no_slice = by (slice_of e.id)
    where
      by : (slice : Option Text) → cond (is_some slice) None (option_and_then (id_place es) (front_of e.id)) ≡ Some over
          → option_and_then (id_place es) (option_map (λ s. take (length e.id - (length s + 1)) e.id) slice) ≡ None
      by (Some w) under = absurd (none-some over under)
      by None under = refl

-- nothing stands in front of a root's id
pub root_has_no_front : (e : Element) → IsTrue (is_root e) → front_of e.id ≡ None
root_has_no_front e = by (slice_of e.id) (front_of e.id)
  where
    by : (slice front : Option Text)
        → IsTrue (is_none (cond (is_some slice) (option_map (λ s. take (length e.id - (length s + 1)) e.id) slice) front)) → front ≡ None
    by (Some w) front root = absurd (false≢true root)
    by None None root = refl
    by None (Some f) root = absurd (false≢true root)
