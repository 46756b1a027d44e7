-- The nodes by which items are typed are of definitions that can be used.
use Rattle.std.proofs.Common.{◌≡◌, ◌<◌, ℕ, zero, suc, Bool, true, false, cond, List, [], ◌∷◌, map, filter, length, get_or, nat_eq, nat_lt, Option, None, Some, is_none, refl, sym, ap, ◌∙◌, subst, inl, inr, IsTrue, arith}
use Rattle.std.specs.Option.{option_map, option_map_or, option_and_then, option_or}
use Rattle.std.specs.List.{slice_get, list_all, position, position_or_len}
use Rattle.std.proofs.lemmas.Bool.{and_parts, and_from, or_cases, false≢true, both_ways, lt-ltb, ltb-true}
use Rattle.std.proofs.lemmas.List.{length-map}
use Rattle.std.proofs.lemmas.List.Folds.{list_all-append}
use Rattle.std.proofs.lemmas.Option.{none-some, same_Some, cond_some, option_and_then_some}
use Rattle.fhir_json.specs.Tree.{Text}
use Rattle.fhir_elements.specs.Element.{Element}
use Rattle.fhir_elements.specs.Tests.{all_hold}
use Rattle.fhir_definition.specs.Snapshot.{is_root, child_place}
use Rattle.fhir_definition.specs.Children.{under_each_from}
use Rattle.fhir_definition.specs.Definition.{Definition}
use Rattle.fhir_nodes.specs.declared.node.NodeRef.{NodeRef}
use Rattle.fhir_nodes.specs.Types.{type_place}
use Rattle.fhir_nodes.specs.Contents.{elements_in, referred_node, content_target, target}
use Rattle.fhir_nodes.specs.Slots.{Slot, slots_of, slots_under}
use Rattle.fhir_nodes.specs.Holders.{slots_at, with_children, holder, child_holder}
use Rattle.fhir_forms.specs.Criteria.{sole}
use Rattle.fhir_schema.specs.Settling.{reason_at, fault_of, types_are_usable, has_tree, targets_are_usable, target_is_usable, target_place, place_referred, may_refer, lasting_tests}
use Rattle.fhir_schema.specs.Usability.{IsClosed}
use Rattle.fhir_schema.specs.Schemas.{SchemaValue, is_usable, elements_at, has, entry_of, root_element, root_in, type_root, slot_named}
use Rattle.fhir_contradictions.specs.Typing.{is_plain, typed_inside, typed_at_slot, typed_under, type_codes, allows_code}
use Rattle.fhir_contradictions.proofs.Slotted.{ArePlaced}

-- ---- the root of a type

-- the place of a root is among the elements
root_within : (es : List Element) (k : ℕ) → position is_root es ≡ Some k → k < length es
root_within es k is =
    let parts = cond_some (nat_lt (position_or_len is_root es) (length es)) (position_or_len is_root es) k is in
    subst (λ (j : ℕ). j < length es) parts.1 (ltb-true (position_or_len is_root es) (length es) parts.0)

module _ (s : SchemaValue) (n : NodeRef) where
  -- the root of a definition that can be used is a node of it
  known_in : (place : ℕ) → root_in s place ≡ Some n → IsTrue (has s n)
  known_in place = go (is_usable s place) refl (root_element s place) refl
    where
      go : (b : Bool) → is_usable s place ≡ b → (o : Option ℕ) → root_element s place ≡ o
          → cond b (option_map (λ (e : ℕ). record { definition = place; element = e }) o) None ≡ Some n → IsTrue (has s n)
      go false usable o found e = absurd (none-some n e)
      go true usable None found e = absurd (none-some n e)
      go true usable (Some k) found e =
          subst (λ (m : NodeRef). IsTrue (has s m)) (same_Some (record { definition = place; element = k }) n e)
          (and_from (is_usable s place) (nat_lt k (length (elements_at s place))) usable
          (lt-ltb k (length (elements_at s place)) (root_within (elements_at s place) k found)))

  -- so is one that is found where there may be such a definition
  known_at : (o : Option ℕ) → option_and_then (root_in s) o ≡ Some n → IsTrue (has s n)
  known_at None e = absurd (none-some n e)
  known_at (Some place) e = known_in place e

-- the root of a type is a node of a definition that can be used
pub known_root : (s : SchemaValue) (code : Text) (n : NodeRef) → type_root s code ≡ Some n → IsTrue (has s n)
known_root s code n e = known_at s n (type_place s.definitions code) e

-- ---- what has children is an element

-- in the lists for n places a list with elements is that for a place among those
children_within : (f : List ℕ → List Slot) (ups : List (Option ℕ)) (p n k : ℕ)
    → nat_eq (length (get_or (map f (under_each_from p n ups)) k [])) 0 ≡ false → k < n
children_within f ups p zero k some = absurd (both_ways true some refl)
children_within f ups p (suc n) zero some = omega arith
children_within f ups p (suc n) (suc k) some =
    let within = children_within f ups (suc p) n k some in
    omega arith

module _ (all : List Definition) where
  -- a node that has slots stands among the elements of its definition
  slots_within : (ds : List Definition) (n : NodeRef)
      → nat_eq (length (get_or (get_or (map (slots_of all) ds) n.definition []) n.element [])) 0 ≡ false
      → n.element < length (option_map_or (λ (d : Definition). d.elements) (slice_get ds n.definition) [])
  slots_within ds n = go ds n.definition
    where
      go : (ds : List Definition) (k : ℕ) → nat_eq (length (get_or (get_or (map (slots_of all) ds) k []) n.element [])) 0 ≡ false
          → n.element < length (option_map_or (λ (d : Definition). d.elements) (slice_get ds k) [])
      go [] k some = absurd (both_ways true some refl)
      go (d ∷ ds) zero some =
          let ups = map (child_place d.elements) d.elements in
          let within : n.element < length ups = children_within (slots_under all d) ups 0 (length ups) n.element some in
          subst (λ (l : ℕ). n.element < l) (length-map d.elements (child_place d.elements)) within
      go (d ∷ ds) (suc k) some = go ds k some

-- a node that has children is the one that has them, and is an element of its definition
with_children_is : (ds : List Definition) (n inside : NodeRef) → with_children ds n ≡ Some inside
    → (n ≡ inside) × (n.element < length (elements_in ds n.definition))
with_children_is ds n inside = go (nat_eq (length (slots_at ds n)) 0) refl
  where
    go : (b : Bool) → nat_eq (length (slots_at ds n)) 0 ≡ b → cond b None (Some n) ≡ Some inside
        → (n ≡ inside) × (n.element < length (elements_in ds n.definition))
    go true none e = absurd (none-some inside e)
    go false some e = (same_Some n inside e, slots_within ds ds n some)

-- ---- what an element refers to for its content

-- of what all pass a test, what stands at a place passes it
test_at : {X : Type 0} (p : X → Bool) (xs : List X) (k : ℕ) (x : X) → IsTrue (list_all p xs) → slice_get xs k ≡ Some x → IsTrue (p x)
test_at p [] k x h e = absurd (none-some x e)
test_at p (y ∷ ys) zero x h e = ap p (sym (same_Some y x e)) ∙ (and_parts (p y) (list_all p ys) h).0
test_at p (y ∷ ys) (suc k) x h e = test_at p ys k x (and_parts (p y) (list_all p ys) h).1 e

-- what isn't there gives nothing
gives_none : (f : Text → Option NodeRef) (t : NodeRef) (o : Option Text) → IsTrue (is_none o) → option_and_then f o ≡ Some t → ⊥
gives_none f t None none e = none-some t e
gives_none f t (Some text) none e = false≢true none

module _ (s : SchemaValue) where
  abbrev ds : List Definition
  ds = s.definitions

  -- what an element refers to is of a definition that can be used, where that is so of what its definition's elements refer to
  refers_usable : (d : Definition) (e : Element) (t : NodeRef) → content_target ds d.place e ≡ Some t → IsTrue (target_is_usable ds s.reasons d e)
      → IsTrue (is_usable s t.definition)
  refers_usable d e t is h =
      elim (or_cases (is_none e.content_reference) (usable_at (target_place ds d e)) h) [
        | inl none ↦ absurd (gives_none (referred_node ds d.place) t e.content_reference none is)
        | inr there ↦ at (may_refer ds d t.definition)
            (sym (ap (λ (o : Option NodeRef). usable_at (option_and_then (place_referred ds d) (option_map (λ (n : NodeRef). n.definition) o))) is)
            ∙ there)
      ]
    where
      usable_at : Option ℕ → Bool
      usable_at o = option_map_or (λ (place : ℕ). is_none (reason_at s.reasons place)) o false

      at : (b : Bool) → IsTrue (usable_at (cond b (Some t.definition) None)) → IsTrue (is_usable s t.definition)
      at true h = h
      at false h = absurd (false≢true h)

  module _ (placed : ArePlaced s) (closed : IsClosed ds s.reasons) where
    -- what the elements of a definition that can be used refer to can be used
    targets_usable : (d : Definition) (place : ℕ) → slice_get ds place ≡ Some d → IsTrue (is_usable s place)
        → IsTrue (targets_are_usable ds s.reasons d)
    targets_usable d place at usable =
        let is : d.place ≡ place = placed place d at in
        let none : reason_at s.reasons place ≡ None = none_is (reason_at s.reasons place) usable in
        let held = closed d (ap (slice_get ds) is ∙ at) (ap (reason_at s.reasons) is ∙ none) in
        let rest = and_parts _ _ (sym (list_all-append (λ test. test.0) (fault_of d) _) ∙ held) in
        let others = and_parts (types_are_usable ds s.reasons d) _ rest.1 in
        let formed = and_parts (has_tree ds d) _ others.1 in
        (and_parts (targets_are_usable ds s.reasons d) (all_hold (lasting_tests ds d)) formed.1).0
      where
        none_is : {A : Type 0} (o : Option A) → IsTrue (is_none o) → o ≡ None
        none_is None e = refl
        none_is (Some x) e = absurd (false≢true e)

    -- so can what a node of one refers to
    target_usable : (n t : NodeRef) → IsTrue (is_usable s n.definition) → target ds n ≡ Some t → IsTrue (is_usable s t.definition)
    target_usable n t usable = of (slice_get ds n.definition) refl
      where
        from : (d : Definition) → slice_get ds n.definition ≡ Some d → (o : Option Element) → slice_get d.elements n.element ≡ o
            → option_and_then (content_target ds n.definition) o ≡ Some t → IsTrue (is_usable s t.definition)
        from d is None at e = absurd (none-some t e)
        from d is (Some x) at e =
            refers_usable d x t (ap (λ (place : ℕ). content_target ds place x) (placed n.definition d is) ∙ e)
            (test_at (target_is_usable ds s.reasons d) d.elements n.element x (targets_usable d n.definition is usable) at)

        of : (o : Option Definition) → slice_get ds n.definition ≡ o
            → option_and_then (content_target ds n.definition) (slice_get (option_map_or (λ (d : Definition). d.elements) o []) n.element) ≡ Some t
            → IsTrue (is_usable s t.definition)
        of None is e = absurd (none-some t e)
        of (Some d) is e = from d is (slice_get d.elements n.element) refl e

    -- the node that has its children is of one
    holder_usable : (n t : NodeRef) → IsTrue (is_usable s n.definition) → holder ds n ≡ Some t → IsTrue (is_usable s t.definition)
    holder_usable n t usable = go (with_children ds n) refl
      where
        go : (o : Option NodeRef) → with_children ds n ≡ o → option_or o (target ds n) ≡ Some t → IsTrue (is_usable s t.definition)
        go None none e = target_usable n t usable e
        go (Some m) own e =
            let same : n ≡ t = (with_children_is ds n m own).0 ∙ same_Some m t e in
            subst (λ (k : NodeRef). IsTrue (is_usable s k.definition)) same usable

    -- and if it has any, is one of its nodes
    child_holder_usable : (n inside : NodeRef) → IsTrue (is_usable s n.definition) → child_holder ds n ≡ Some inside → IsTrue (has s inside)
    child_holder_usable n inside usable is = option_and_then_some (with_children ds) (holder ds n) inside is there
      where
        there : (t : NodeRef) → holder ds n ≡ Some t → with_children ds t ≡ Some inside → IsTrue (has s inside)
        there t held e =
            let some = with_children_is ds t inside e in
            subst (λ (k : NodeRef). IsTrue (has s k)) some.0
            (and_from (is_usable s t.definition) (nat_lt t.element (length (elements_at s t.definition))) (holder_usable n t usable held)
            (lt-ltb t.element (length (elements_at s t.definition)) some.1))

    -- ---- what types the children of a node's items

    -- a node of a definition that can be used, where the one that types the items' parents is
    pub known_below : (by inside n : NodeRef) (name : Text) → IsTrue (has s by) → typed_under s by name n ≡ Some inside → IsTrue (has s inside)
    known_below by inside n name known is = option_and_then_some (typed_at_slot s by n) (slot_named s by name) inside is at_slot
      where
        usable : IsTrue (is_usable s by.definition)
        usable = (and_parts (is_usable s by.definition) (nat_lt by.element (length (elements_at s by.definition))) known).0

        held : (slot : Slot) (code : Text) (o : Option NodeRef) → child_holder ds (entry_of by slot) ≡ o
            → option_or o (type_root s code) ≡ Some inside → IsTrue (has s inside)
        held slot code None none e = known_root s code inside e
        held slot code (Some m) some e = child_holder_usable (entry_of by slot) inside usable (some ∙ e)

        unless_plain : (slot : Slot) (code : Text) (b : Bool)
            → cond b None (option_or (child_holder ds (entry_of by slot)) (type_root s code)) ≡ Some inside → IsTrue (has s inside)
        unless_plain slot code true e = absurd (none-some inside e)
        unless_plain slot code false e = held slot code (child_holder ds (entry_of by slot)) refl e

        at_slot : (slot : Slot) → slot_named s by name ≡ Some slot → typed_at_slot s by n slot ≡ Some inside → IsTrue (has s inside)
        at_slot slot found e =
            option_and_then_some (typed_inside s (entry_of by slot)) (sole (filter (allows_code s n) (type_codes s (entry_of by slot)))) inside e
            (λ code one last. unless_plain slot code (is_plain s code) last)
