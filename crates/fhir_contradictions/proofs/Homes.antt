-- The nodes of type definitions that can be used: what their definitions meet, and that the elements of their slots are such nodes.
use Rattle.std.proofs.Common.{◌≡◌, ◌<◌, ℕ, Bool, true, false, cond, nat_lt, nat_eq, List, [], length, get_or, Option, None, Some, is_some, is_none, refl, sym, ap, ◌∙◌, subst, inl, inr, IsTrue, arith}
use Rattle.std.specs.Option.{option_map_or, option_and_then}
use Rattle.std.specs.List.{Contains, slice_get, filter}
use Rattle.std.proofs.lemmas.Bool.{and_parts, and_from, both_ways, false≢true, ltb-true, lt-ltb, eqb-true}
use Rattle.std.proofs.lemmas.Option.{none-some, get_or_from_slice_get, slice_get_within, slice_get_cases}
use Rattle.std.proofs.lemmas.List.Quantifiers.{position-Some}
use Rattle.std.proofs.lemmas.List.Folds.{list_all-append}
use Rattle.fhir_json.specs.Tree.{Text}
use Rattle.fhir_names.specs.Parents.{front_of, slice_of, sliced_of}
use Rattle.fhir_elements.specs.Element.{Element}
use Rattle.fhir_elements.specs.Tests.{all_hold}
use Rattle.fhir_definition.specs.Snapshot.{id_place, is_at, is_root, root_place, child_place}
use Rattle.fhir_definition.specs.Children.{children_of}
use Rattle.fhir_definition.specs.Definition.{Definition}
use Rattle.fhir_definition.proofs.Under.{are_under_each}
use Rattle.fhir_nodes.specs.declared.node.NodeRef.{NodeRef}
use Rattle.fhir_nodes.specs.Slots.{Slot, slot_at, is_slot, slots_under, slots_of}
use Rattle.fhir_schema.specs.Settling.{reason_at, fault_of, types_are_usable, has_tree, is_type_at, targets_are_usable, lasting_tests}
use Rattle.fhir_schema.specs.Usability.{IsClosed}
use Rattle.fhir_schema.specs.Schemas.{SchemaValue, is_usable, elements_at, has, element_at, is_root_node, slots, entry_of}
use Rattle.fhir_contradictions.proofs.Listed.{contains_none, from_filter, Mapped, from_map, at_map, past_map}
use Rattle.fhir_contradictions.proofs.Slotted.{ArePlaced}

-- ---- places among elements

-- an element that is no root doesn't stand at the root's place
not_at_root : (es : List Element) (k : ℕ) (e : Element) → slice_get es k ≡ Some e → is_root e ≡ false → is_at k (root_place es) ≡ false
not_at_root es k e at inner = go (root_place es) refl
  where
    by : (p : ℕ) → root_place es ≡ Some p → (b : Bool) → nat_eq k p ≡ b → b ≡ false
    by p is false same = refl
    by p is true same =
        let here : get_or es p e ≡ e =
        ap (λ (i : ℕ). get_or es i e) (sym (eqb-true k p same)) ∙ get_or_from_slice_get es k e e at in
        absurd (both_ways (is_root e) inner (ap is_root (sym here) ∙ (position-Some is_root es p e is).1))

    go : (o : Option ℕ) → root_place es ≡ o → is_at k o ≡ false
    go None is = refl
    go (Some p) is = by p is (nat_eq k p) refl

-- an element that is a child of another is no root
child_is_inner : (es : List Element) (e : Element) (over : ℕ) → child_place es e ≡ Some over → is_root e ≡ false
child_is_inner es e over = go (is_some (slice_of e.id)) (front_of e.id)
  where
    go : (b : Bool) (front : Option Text) → cond b None (option_and_then (id_place es) front) ≡ Some over
        → is_none (cond b (sliced_of e.id) front) ≡ false
    go true front is = absurd (none-some over is)
    go false None is = absurd (none-some over is)
    go false (Some id) is = refl

-- where nothing is there, that is so
is_none_is : {A : Type 0} (o : Option A) → is_none o ≡ true → o ≡ None
is_none_is None is = refl
is_none_is (Some x) is = absurd (false≢true is)

-- what stands at a place of a list is one of it
pub at_place : {A : Type 0} (xs : List A) (k : ℕ) (x : A) → slice_get xs k ≡ Some x → Contains xs x
at_place xs k x is = (k, slice_get_within xs k x is, get_or_from_slice_get xs k x x is)

-- ---- nodes of type definitions that can be used

-- the node is one
pub record IsUsed (s : SchemaValue) (n : NodeRef) : Type 0 where
  pub known : IsTrue (has s n)
  pub of_type : is_type_at s.definitions n.definition ≡ true

-- it is one, and the element there is no root
pub record IsInner (s : SchemaValue) (n : NodeRef) : Type 0 where
  pub used : IsUsed s n
  pub element : Element
  pub at : element_at s n ≡ Some element
  pub inner : is_root element ≡ false

-- the definition of such a node, and what that meets
pub record Home (s : SchemaValue) (n : NodeRef) : Type 0 where
  pub itself : Definition
  pub there : slice_get s.definitions n.definition ≡ Some itself
  pub place : itself.place ≡ n.definition
  pub is_type : itself.is_type ≡ true
  pub types : IsTrue (types_are_usable s.definitions s.reasons itself)
  pub targets : IsTrue (targets_are_usable s.definitions s.reasons itself)

-- the node's element is among those of its definition
pub used_within : (s : SchemaValue) (n : NodeRef) → IsUsed s n → n.element < length (elements_at s n.definition)
used_within s n used =
    ltb-true n.element (length (elements_at s n.definition))
    (and_parts (is_usable s n.definition) (nat_lt n.element (length (elements_at s n.definition))) used.known).1

-- so it is there
pub element_there : (s : SchemaValue) (n : NodeRef) → IsUsed s n → element_at s n ≡ None → ⊥
element_there s n used is =
    elim ((slice_get_cases (elements_at s n.definition) n.element).1) [
      | inl some ↦ none-some some.0 (sym is ∙ some.2)
      | inr past ↦ omega (arith, past.0, used_within s n used)
    ]

-- a node of an element that is no root is no root
pub inner_node : (s : SchemaValue) (n : NodeRef) → IsInner s n → is_root_node s n ≡ false
inner_node s n g = not_at_root (elements_at s n.definition) n.element g.element g.at g.inner

-- the elements of its definition
pub home_elements : (s : SchemaValue) (n : NodeRef) (h : Home s n) → elements_at s n.definition ≡ h.itself.elements
home_elements s n h = ap (λ (o : Option Definition). option_map_or (λ (d : Definition). d.elements) o []) h.there

-- an element of a node is one of its definition's
pub among_elements : (s : SchemaValue) (n : NodeRef) (h : Home s n) (e : Element) → element_at s n ≡ Some e → Contains h.itself.elements e
among_elements s n h e at =
    at_place h.itself.elements n.element e (ap (λ (es : List Element). slice_get es n.element) (sym (home_elements s n h)) ∙ at)

module _ (s : SchemaValue) (placed : ArePlaced s) (closed : IsClosed s.definitions s.reasons) where
  -- its definition can be used
  definition_usable : (n : NodeRef) → IsUsed s n → IsTrue (is_usable s n.definition)
  definition_usable n used = (and_parts (is_usable s n.definition) (nat_lt n.element (length (elements_at s n.definition))) used.known).0

  -- it has a definition, which passes each test
  pub home : (n : NodeRef) → IsUsed s n → Home s n
  home n used = go (slice_get s.definitions n.definition) refl used.of_type
    where
      go : (o : Option Definition) → slice_get s.definitions n.definition ≡ o → option_map_or (λ (d : Definition). d.is_type) o false ≡ true
          → Home s n
      go None at is = absurd (false≢true is)
      go (Some d) at is =
          let place = placed n.definition d at in
          let held = closed d (ap (slice_get s.definitions) place ∙ at)
          (ap (reason_at s.reasons) place ∙ is_none_is (reason_at s.reasons n.definition) (definition_usable n used)) in
          let rest = and_parts _ _ (sym (list_all-append (λ test. test.0) (fault_of d) _) ∙ held) in
          let types = and_parts (types_are_usable s.definitions s.reasons d) _ rest.1 in
          let tree = and_parts (has_tree s.definitions d) _ types.1 in
          let targets = and_parts (targets_are_usable s.definitions s.reasons d) (all_hold (lasting_tests s.definitions d)) tree.1 in
          record { itself = d; there = at; place = place; is_type = is; types = types.0; targets = targets.0 }

  -- ---- its slots

  -- a place under the node's element is that of an element that is no root
  inner_under : (n : NodeRef) (used : IsUsed s n) (h : Home s n) (k : ℕ) → Contains (get_or (children_of h.itself.elements) n.element []) k
      → IsInner s (record { definition = n.definition; element = k })
  inner_under n used h k has =
      let es = h.itself.elements in
      let within : n.element < length es =
      subst (λ (l : List Element). n.element < length l) (home_elements s n h) (used_within s n used) in
      let stands = (are_under_each (child_place es) es n.element k within).0 has in
      let at : slice_get (elements_at s n.definition) k ≡ Some stands.0 =
      ap (λ (l : List Element). slice_get l k) (home_elements s n h) ∙ stands.1 in
      record {
        used = record {
          known = and_from (is_usable s n.definition) (nat_lt k (length (elements_at s n.definition))) (definition_usable n used)
              (lt-ltb k (length (elements_at s n.definition)) (slice_get_within (elements_at s n.definition) k stands.0 at));
          of_type = used.of_type;
        };
        element = stands.0;
        at = at;
        inner = child_is_inner es stands.0 n.element stands.2;
      }

  -- the element of a slot is one that is no root
  pub slot_inner : (n : NodeRef) (slot : Slot) → IsUsed s n → Contains (slots s n) slot → IsInner s (entry_of n slot)
  slot_inner n slot used has = in_home (home n used)
    where
      in_home : Home s n → IsInner s (entry_of n slot)
      in_home h = at (slice_get (children_of d.elements) n.element) refl listed
        where
          d : Definition
          d = h.itself

          listed : Contains (get_or (slots_of s.definitions d) n.element []) slot
          listed =
              subst (λ (l : List (List Slot)). Contains (get_or l n.element []) slot)
              (at_map (slots_of s.definitions) s.definitions n.definition d [] h.there) has

          made : (places : List ℕ) → slice_get (children_of d.elements) n.element ≡ Some places
              → Mapped (slot_at d.elements) (filter (is_slot s.definitions d) places) slot → IsInner s (entry_of n slot)
          made places is m =
              subst (λ (k : ℕ). IsInner s (record { definition = n.definition; element = k })) (ap (λ (x : Slot). x.entry) m.is)
              (inner_under n used h m.from
              (subst (λ (l : List ℕ). Contains l m.from) (sym (get_or_from_slice_get (children_of d.elements) n.element places [] is))
              (from_filter (is_slot s.definitions d) places m.from m.among)))

          at : (o : Option (List ℕ)) → slice_get (children_of d.elements) n.element ≡ o
              → Contains (get_or (slots_of s.definitions d) n.element []) slot → IsInner s (entry_of n slot)
          at None is has =
              absurd (contains_none slot
              (subst (λ (l : List Slot). Contains l slot) (past_map (slots_under s.definitions d) (children_of d.elements) n.element [] is) has))
          at (Some places) is has =
              made places is
              (from_map (slot_at d.elements) (filter (is_slot s.definitions d) places) slot
              (subst (λ (l : List Slot). Contains l slot)
              (at_map (slots_under s.definitions d) (children_of d.elements) n.element places [] is) has))
