-- No item stands where something is told that can never hold.
use Rattle.std.proofs.Common.{◌≡◌, ℕ, Bool, true, false, cond, List, [], length, Option, None, Some, option_map, nat_lt, ◌+◌, IsTrue, refl, sym, ap, ◌∙◌, subst, arith}
use Rattle.std.specs.List.{Contains, slice_get}
use Rattle.std.proofs.lemmas.Bool.{and_from, lt-ltb, true≢false, false≢true}
use Rattle.std.proofs.lemmas.Option.{none-some, same_Some, slice_get_within}
use Rattle.fhir_json.specs.Tree.{Text}
use Rattle.fhir_elements.specs.Element.{Element}
use Rattle.fhir_definition.specs.Snapshot.{slice_place}
use Rattle.fhir_nodes.specs.declared.node.NodeRef.{NodeRef}
use Rattle.fhir_nodes.specs.Slots.{Slot}
use Rattle.fhir_schema.specs.Schemas.{SchemaValue, has, is_usable, elements_at, root_element, slots, slices, entry_of, criteria, root_in}
use Rattle.fhir_instance.specs.Items.{Item}
use Rattle.fhir_slicing.specs.Belonging.{belongs}
use Rattle.fhir_conformance.specs.Conformance.{Interpretation, Around, conforms}
use Rattle.fhir_contradictions.specs.declared.contradiction.Contradiction.{Contradiction}
use Rattle.fhir_contradictions.specs.Typing.{IsTypedBy, IsTypedIfKnown, Under, typed_by}
use Rattle.fhir_contradictions.specs.Regular.{typed_at_root}
use Rattle.fhir_contradictions.specs.Contradictions.{IsSoundValue, lacks_type, asks_too_many}
use Rattle.fhir_contradictions.specs.Children.{Conforming, ConformingBoth}
use Rattle.fhir_contradictions.specs.Listing.{node_of, under_of, unsliced, node_sliced, found_from, contradictions}
use Rattle.fhir_contradictions.proofs.Listed.{contains_none}
use Rattle.further_laws.specs.Standing.{StandsAt, itself, below, in_slice, IsPart, an_element, a_slice, refuses_parents}
use Rattle.further_laws.proofs.Taken.{Taken}
use Rattle.further_laws.proofs.SlotPlaces.{root_is_no_slice, child_is_no_slice}
use Rattle.further_laws.proofs.StandingItems.{IsRootOf, is_root_there, own_holder, root_of, slice_conforms, standing_conforms}
use Rattle.further_laws.proofs.Beneath.{under_slot, element_child, element_entry, slice_entry, slice_node}
use Rattle.further_laws.proofs.ToldOf.{ToldOf, no_type, fixed_type, too_many_sliced, other_types, other_value, of_fixed, told_of, fixed_spares_parents}
use Rattle.further_laws.proofs.KnownTypes.{IsTold, told_from, definition_there, parent_of, typed_here}

module _ (s : SchemaValue) (meaning : Interpretation) (laws : Taken s meaning) (root : NodeRef) (x : Item) (place : ℕ) (there : IsRootOf s place root)
    (around : Around) (holds : IsTrue (conforms s meaning around x root)) (typed_root : IsTypedIfKnown s (typed_at_root s root) x) where
  abbrev es : List Element
  es = elements_at s place

  abbrev Told : NodeRef → Contradiction → Type 0
  Told n c = IsTold s meaning laws root x place there around holds typed_root n c

  -- what stands at a node conforms to it, and the node is of the definition
  conforming : (n : NodeRef) (y : Item) → StandsAt s root x n y → Conforming s meaning y n
  conforming n y st = standing_conforms s meaning laws root x around holds n y st

  placed : (n : NodeRef) (y : Item) → StandsAt s root x n y → n.definition ≡ place
  placed n y st = definition_there s meaning laws root x place there n y st

  -- ---- at a slice

  -- the item conforms to both, and belongs to the slice
  record AtSlice (m n : NodeRef) (y : Item) : Type 0 where
    both : ConformingBoth s meaning y m n
    belonging : IsTrue (belongs s (criteria s n) y)

  -- the place of the element that one is a slice of
  sliced_place : (o : Option ℕ) (m : NodeRef) → option_map (node_of place) o ≡ Some m → o ≡ Some m.element
  sliced_place None m is = absurd (none-some m is)
  sliced_place (Some k) m is = ap (λ (n : NodeRef). Some n.element) (same_Some (node_of place k) m is)

  -- what stands at a slice belongs to it
  at_slice : (at : ℕ) (e : Element) → slice_get es at ≡ Some e → (m : NodeRef) → node_sliced s place e ≡ Some m → (n : NodeRef) (y : Item)
      → node_of place at ≡ n → StandsAt s root x n y → AtSlice m n y
  at_slice at e is m sliced n y same (itself f g) =
      let here : root_element s place ≡ Some at = there.element ∙ ap (λ (k : NodeRef). Some k.element) (sym (same ∙ f)) in
      absurd (root_is_no_slice es e m.element (is_root_there s place at e here is) (sliced_place (slice_place es e) m sliced))
  at_slice at e is m sliced n y same (below {m = over} {z = z} slot st b f) =
      let child = element_child s place at e is over slot (placed over z st) b.among (same ∙ f) in
      absurd (none-some m.element (sym (child_is_no_slice es e over.element child) ∙ sliced_place (slice_place es e) m sliced))
  at_slice at e is m sliced n y same (in_slice {m = over} {z = z} slot slice st b among f belonging) =
      let is_that : entry_of over slot ≡ m =
      same_Some (entry_of over slot) m (sym (slice_node s place at e is over slot slice (placed over z st) among (same ∙ f)) ∙ sliced) in
      record {
        both = subst (λ (k : NodeRef). ConformingBoth s meaning y k n) is_that
            (slice_conforms s meaning laws root x over n y z slot slice (conforming over z st) b among f belonging);
        belonging = belonging;
      }

  -- ---- no item at the element

  module _ (n : NodeRef) (c : Contradiction) (t : Told n c) where
    abbrev here : NodeRef
    here = node_of place t.at

    abbrev under : Option Under
    under = under_of s place t.known t.at t.element

    abbrev Sort : Type 0
    Sort = ToldOf s under (node_sliced s place t.element) here c

    -- of which sort the contradiction is
    sort : Sort
    sort = told_of s under (node_sliced s place t.element) here c t.told

    -- whichever it is
    pub item_refused : refuses_parents c ≡ false → (y : Item) → StandsAt s root x n y → IsSoundValue y → ⊥
    item_refused spares y stands sounds = by sort
      where
        st : StandsAt s root x here y
        st = subst (λ (k : NodeRef). StandsAt s root x k y) (sym t.node) stands

        sliced_at : (m : NodeRef) → node_sliced s place t.element ≡ Some m → AtSlice m here y
        sliced_at m is = at_slice t.at t.element t.is m is here y refl st

        by : Sort → ⊥
        by (no_type u is lacks e) = true≢false (ap refuses_parents e ∙ spares)
        by (too_many_sliced none many e) = true≢false (ap refuses_parents e ∙ spares)
        by (fixed_type u is misses e) =
            let h = parent_of s meaning laws root x place there t.known t.sounds t.at t.element t.is u is here y refl st in
            let k = conforming here y st in
            laws.missing_type k.around h.parent y u.0 here u.1 (laws.children_apart u.0 h.usable) h.typed h.child misses k.holds
        by (other_types m is types e) =
            let h = sliced_at m is in
            laws.of_other_types h.both.around y m here types h.both.holds_one h.both.holds_other
        by (other_value m is value e) =
            let h = sliced_at m is in
            laws.of_other_value h.both.around y (typed_by s under here) m here
            (typed_here s meaning laws root x place there around holds typed_root t.known t.sounds t.at t.element t.is y st)
            value h.belonging h.both.holds_one h.both.holds_other
        by (of_fixed has) =
            let k = conforming here y st in
            laws.of_fixed_value k.around y here c sounds has k.holds

    -- ---- no parent above it

    module _ (refuses : refuses_parents c ≡ true) (m : NodeRef) (z : Item) (st : StandsAt s root x m z) where
      -- a parent that the node types, where that is known
      known_parent : (slot : Slot) (u : Under) → Contains (slots s m) slot → unsliced s place t.at t.element ≡ slot.entry → under ≡ Some u
          → (IsTrue (has s u.0) × IsTypedBy s u.0 z) × (u.1 ≡ slot.name)
      known_parent slot u among entry is =
          let iu = under_slot s place t.known t.at t.element m slot u (placed m z st) among entry is in
          let standing : StandsAt s root x (node_of place m.element) z =
          subst (λ (k : ℕ). StandsAt s root x (node_of k m.element) z) (placed m z st) st in
          (t.sounds m.element z standing u.0 iu.typed_by, iu.name)

      -- what lacks a type under a name, at its node
      lacking_at : (by k : NodeRef) (name other : Text) → name ≡ other → here ≡ k → IsTrue (lacks_type s by name here) → IsTrue (lacks_type s by other k)
      lacking_at by k name other named is lacks =
          subst (λ (j : NodeRef). IsTrue (lacks_type s by other j)) is (subst (λ (w : Text). IsTrue (lacks_type s by w here)) named lacks)

      -- at an element below the parent's
      of_element : (slot : Slot) → Contains (slots s m) slot → here ≡ entry_of m slot → Sort → ⊥
      of_element slot among f (no_type u is lacks e) =
          let k = conforming m z st in
          let h = known_parent slot u among (element_entry s place t.at t.element t.is m slot (placed m z st) among f) is in
          laws.lacking k.around z u.0 m m slot (laws.children_apart u.0 h.0.0) h.0.1 (own_holder s m slot among) among
          (lacking_at u.0 (entry_of m slot) u.1 slot.name h.1 f lacks) k.holds
      of_element slot among f (too_many_sliced none many e) =
          let k = conforming m z st in
          let in_it : IsTrue (has s here) =
          and_from (is_usable s place) (nat_lt t.at (length es)) there.usable (lt-ltb t.at (length es) (slice_get_within es t.at t.element t.is)) in
          laws.asking_too_many k.around z m m slot (own_holder s m slot among) among
          (laws.slices_apart (entry_of m slot) (subst (λ (j : NodeRef). IsTrue (has s j)) f in_it))
          (subst (λ (j : NodeRef). IsTrue (asks_too_many s j)) f many) k.holds
      of_element slot among f (fixed_type u is misses e) = false≢true (ap refuses_parents e ∙ refuses)
      of_element slot among f (other_types k is types e) = false≢true (ap refuses_parents e ∙ refuses)
      of_element slot among f (other_value k is value e) = false≢true (ap refuses_parents e ∙ refuses)
      of_element slot among f (of_fixed has) = false≢true (sym (fixed_spares_parents s here c has) ∙ refuses)

      -- at a slice of such
      of_slice : (slot slice : Slot) → Contains (slots s m) slot → Contains (slices s (entry_of m slot)) slice → here ≡ entry_of m slice → Sort → ⊥
      of_slice slot slice among one f (no_type u is lacks e) =
          let k = conforming m z st in
          let h = known_parent slot u among (slice_entry s place t.at t.element t.is m slot slice (placed m z st) one f) is in
          laws.lacking_slice k.around z u.0 m m slot slice (laws.children_apart u.0 h.0.0) h.0.1 (own_holder s m slot among) among one
          (lacking_at u.0 (entry_of m slice) u.1 slot.name h.1 f lacks) k.holds
      of_slice slot slice among one f (too_many_sliced none many e) =
          none-some (entry_of m slot) (sym none ∙ slice_node s place t.at t.element t.is m slot slice (placed m z st) one f)
      of_slice slot slice among one f (fixed_type u is misses e) = false≢true (ap refuses_parents e ∙ refuses)
      of_slice slot slice among one f (other_types k is types e) = false≢true (ap refuses_parents e ∙ refuses)
      of_slice slot slice among one f (other_value k is value e) = false≢true (ap refuses_parents e ∙ refuses)
      of_slice slot slice among one f (of_fixed has) = false≢true (sym (fixed_spares_parents s here c has) ∙ refuses)

      -- at both
      pub parent_refused : IsPart s m n → ⊥
      parent_refused (an_element slot among f) = of_element slot among (t.node ∙ f) sort
      parent_refused (a_slice slot slice among one f) = of_slice slot slice among one (t.node ∙ f) sort

  -- each contradiction of the definition is told of one of its elements
  pub told_in : (n : NodeRef) (c : Contradiction) → Contains {X = NodeRef × Contradiction} (contradictions s place) (n, c) → Told n c
  told_in n c = by (is_usable s place)
    where
      by : (b : Bool) → Contains {X = NodeRef × Contradiction} (cond b (found_from s place [] 0 es) []) (n, c) → Told n c
      by false has = absurd (contains_none {X = NodeRef × Contradiction} (n, c) has)
      by true has =
          told_from s meaning laws root x place there around holds typed_root [] (λ k y st b is. absurd (none-some b is)) 0 refl es
          (λ k. let same : k ≡ 0 + k = omega arith in ap (slice_get es) same) n c has

-- ---- of a resource

module _ (s : SchemaValue) (meaning : Interpretation) (laws : Taken s meaning) (around : Around) (x : Item) (place : ℕ) (root n : NodeRef) (c : Contradiction)
    (is : root_in s place ≡ Some root) (typed_root : IsTypedIfKnown s (typed_at_root s root) x) (holds : IsTrue (conforms s meaning around x root))
    (has : Contains {X = NodeRef × Contradiction} (contradictions s place) (n, c)) where
  -- no item stands at an element that asks for what can't hold
  pub no_item : refuses_parents c ≡ false → (y : Item) → StandsAt s root x n y → IsSoundValue y → ⊥
  no_item =
      let there = root_of s place root is in
      item_refused s meaning laws root x place there around holds typed_root n c (told_in s meaning laws root x place there around holds typed_root n c has)

  -- and none at the one above, where something has to be there that can't
  pub no_parent : refuses_parents c ≡ true → (m : NodeRef) (z : Item) → StandsAt s root x m z → IsPart s m n → ⊥
  no_parent =
      let there = root_of s place root is in
      parent_refused s meaning laws root x place there around holds typed_root n c (told_in s meaning laws root x place there around holds typed_root n c has)
