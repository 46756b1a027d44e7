-- What is known of the elements of a definition is so of the items that stand at them.
use Rattle.std.proofs.Common.{◌≡◌, ◌+◌, ℕ, zero, suc, Bool, true, false, cond, List, [], ◌∷◌, ◌++◌, map, length, length-append, get_or, Option, None, Some, IsTrue, refl, sym, ap, ◌∙◌, subst, arith, ◌⊎◌, inl, inr, option_and_then}
use Rattle.std.specs.List.{Contains, slice_get}
use Rattle.std.proofs.lemmas.Bool.{false≢true, eqb-true}
use Rattle.std.proofs.lemmas.Option.{none-some, same_Some}
use Rattle.std.proofs.lemmas.List.Elements.{Contains-append_cases}
use Rattle.fhir_json.specs.Tree.{Text}
use Rattle.fhir_json.specs.Bytes.{is_empty}
use Rattle.fhir_elements.specs.Element.{Element}
use Rattle.fhir_definition.specs.Snapshot.{is_root, is_at}
use Rattle.fhir_nodes.specs.declared.node.NodeRef.{NodeRef}
use Rattle.fhir_nodes.specs.Slots.{Slot}
use Rattle.fhir_schema.specs.Schemas.{SchemaValue, has, elements_at, root_element, is_root_node, slots}
use Rattle.fhir_instance.specs.Items.{Item, kids_of}
use Rattle.fhir_conformance.specs.Conformance.{Interpretation, Around, conforms}
use Rattle.fhir_contradictions.specs.declared.contradiction.Contradiction.{Contradiction}
use Rattle.fhir_contradictions.specs.declared.known.Known.{Known}
use Rattle.fhir_contradictions.specs.Typing.{IsTypedBy, IsTypedIfKnown, children_of, Under, are_few_under, typed_under, typed_by}
use Rattle.fhir_contradictions.specs.Regular.{typed_at_root}
use Rattle.fhir_contradictions.specs.Contradictions.{contradictions_at}
use Rattle.fhir_contradictions.specs.Listing.{unknown, node_of, typed_below, under_of, is_absent_of, next_known, node_sliced, found_at, found_from}
use Rattle.fhir_contradictions.proofs.Listed.{contains_none, from_map}
use Rattle.further_laws.specs.Standing.{IsBelow, StandsAt, itself, below, in_slice}
use Rattle.further_laws.proofs.Taken.{Taken}
use Rattle.further_laws.proofs.SlotPlaces.{root_is_no_child, root_is_no_slice}
use Rattle.further_laws.proofs.StandingItems.{IsRootOf, is_root_there, definition_is, standing_conforms}
use Rattle.further_laws.proofs.Beneath.{IsUnder, under_slot, root_under, element_child, element_entry, slice_entry, slice_sliced}

-- what there is if a test holds
pub where_so : {A : Type 0} (b : Bool) (o : Option A) (x : A) → cond b o None ≡ Some x → o ≡ Some x
where_so true o x is = is
where_so false o x is = absurd (none-some x is)

-- and if it doesn't
where_not : {A : Type 0} (b : Bool) (o : Option A) (x : A) → cond b None o ≡ Some x → o ≡ Some x
where_not true o x is = absurd (none-some x is)
where_not false o x is = is

-- at each place of a longer list stands what stood there, or at its end what was put there
pushed : {A : Type 0} (z : A) (xs : List A) (x : A) (k : ℕ)
    → (get_or (xs ++ x ∷ []) k z ≡ get_or xs k z) ⊎ ((k ≡ length xs) × (get_or (xs ++ x ∷ []) k z ≡ x))
pushed z [] x zero = inr (refl, refl)
pushed z [] x (suc k) = inl refl
pushed z (y ∷ ys) x zero = inl refl
pushed z (y ∷ ys) x (suc k) =
    elim (pushed z ys x k) [
      | inl before ↦ inl before
      | inr last ↦ inr (omega (arith, last.0), last.1)
    ]

module _ (s : SchemaValue) (meaning : Interpretation) (laws : Taken s meaning) (root : NodeRef) (x : Item) (place : ℕ) (there : IsRootOf s place root) where
  abbrev es : List Element
  es = elements_at s place

  -- what is known of the element at a place is so of the items that stand there
  abbrev pub IsSoundAt : ℕ → Known → Type 0
  IsSoundAt k it = (y : Item) → StandsAt s root x (node_of place k) y → IsTypedIfKnown s it.typed_by y

  abbrev pub AreSound : List Known → Type 0
  AreSound known = (k : ℕ) → IsSoundAt k (get_or known k unknown)

  -- the node of an item that stands somewhere is one of the definition
  pub definition_there : (n : NodeRef) (y : Item) → StandsAt s root x n y → n.definition ≡ place
  definition_there n y st = definition_is s meaning laws root x n y st ∙ there.definition

  -- nothing else than the resource stands at the root
  stands_at_root : (at : ℕ) (e : Element) → slice_get es at ≡ Some e → IsTrue (is_root e) → (n : NodeRef) (y : Item) → node_of place at ≡ n
      → StandsAt s root x n y → y ≡ x
  stands_at_root at e is top n y same (itself f same_item) = same_item
  stands_at_root at e is top n y same (below {m = m} {z = z} slot st b f) =
      absurd (root_is_no_child es e m.element top (element_child s place at e is m slot (definition_there m z st) b.among (same ∙ f)))
  stands_at_root at e is top n y same (in_slice {m = m} {z = z} slot slice st b among f belonging) =
      absurd (root_is_no_slice es e slot.entry top (slice_sliced s place at e is m slot slice (definition_there m z st) among (same ∙ f)))

  -- ---- what an element stands under is known of the items' parents

  -- the item is a child of one that the node types
  pub record HasTypedParent (u : Under) (y : Item) : Type 0 where
    pub parent : Item
    pub usable : IsTrue (has s u.0)
    pub typed : IsTypedBy s u.0 parent
    pub child : Contains (children_of (kids_of parent)) (u.1, y)

  -- of a parent at a node of which that is known
  typed_parent : (known : List Known) → AreSound known → (at : ℕ) (e : Element) (u : Under) (m : NodeRef) (z y : Item) (slot : Slot)
      → StandsAt s root x m z → IsBelow s m z slot y → IsUnder s place known at e m slot u → HasTypedParent u y
  typed_parent known sounds at e u m z y slot st b iu =
      let standing : StandsAt s root x (node_of place m.element) z =
      subst (λ (k : ℕ). StandsAt s root x (node_of k m.element) z) (definition_there m z st) st in
      let facts = sounds m.element z standing u.0 iu.typed_by in
      record {
        parent = z;
        usable = facts.0;
        typed = facts.1;
        child = subst (λ (t : Text). Contains (children_of (kids_of z)) (t, y)) (sym iu.name) b.child;
      }

  -- the parent of each item at an element that is known to stand under a node
  pub parent_of : (known : List Known) → AreSound known → (at : ℕ) (e : Element) → slice_get es at ≡ Some e → (u : Under)
      → under_of s place known at e ≡ Some u → (n : NodeRef) (y : Item) → node_of place at ≡ n → StandsAt s root x n y → HasTypedParent u y
  parent_of known sounds at e is u under n y same (itself f same_item) =
      let here : root_element s place ≡ Some at = there.element ∙ ap (λ (k : NodeRef). Some k.element) (sym (same ∙ f)) in
      absurd (none-some u (sym (root_under s place known at e (is_root_there s place at e here is)) ∙ under))
  parent_of known sounds at e is u under n y same (below {m = m} {z = z} slot st b f) =
      let in_place = definition_there m z st in
      typed_parent known sounds at e u m z y slot st b
      (under_slot s place known at e m slot u in_place b.among (element_entry s place at e is m slot in_place b.among (same ∙ f)) under)
  parent_of known sounds at e is u under n y same (in_slice {m = m} {z = z} slot slice st b among f belonging) =
      let in_place = definition_there m z st in
      typed_parent known sounds at e u m z y slot st b
      (under_slot s place known at e m slot u in_place b.among (slice_entry s place at e is m slot slice in_place among (same ∙ f)) under)

  -- ---- what is known of one more element is so

  module _ (around : Around) (holds : IsTrue (conforms s meaning around x root)) (typed_root : IsTypedIfKnown s (typed_at_root s root) x) where
    -- where an item is the child of one that a node types, and can be of one type alone
    typed_child : (u : Under) (n : NodeRef) (y : Item) → HasTypedParent u y → StandsAt s root x n y → IsTypedIfKnown s (typed_under s u.0 u.1 n) y
    typed_child u n y h st b is =
        let c = standing_conforms s meaning laws root x around holds n y st in (
          laws.usable_below u.0 b n u.1 h.usable is,
          laws.typed_below c.around h.parent y u.0 b n u.1 (laws.children_apart u.0 h.usable) h.typed h.child c.holds is,
        )

    -- which node types the items of an element, by what it stands under
    pub typed_here : (known : List Known) → AreSound known → (at : ℕ) (e : Element) → slice_get es at ≡ Some e → (y : Item)
        → StandsAt s root x (node_of place at) y → IsTypedIfKnown s (typed_by s (under_of s place known at e) (node_of place at)) y
    typed_here known sounds at e is y st = by (under_of s place known at e) refl
      where
        by : (o : Option Under) → under_of s place known at e ≡ o → IsTypedIfKnown s (typed_by s o (node_of place at)) y
        by None under b typed = absurd (none-some b typed)
        by (Some u) under b typed =
            typed_child u (node_of place at) y (parent_of known sounds at e is u under (node_of place at) y refl st) st b
            (where_so (are_few_under s u (node_of place at)) (typed_under s u.0 u.1 (node_of place at)) b typed)

    -- that of the root
    typed_there : (at : ℕ) (e : Element) → slice_get es at ≡ Some e → is_root_node s (node_of place at) ≡ true → (y : Item)
        → StandsAt s root x (node_of place at) y → IsTypedIfKnown s (typed_at_root s (node_of place at)) y
    typed_there at e is top y st =
        let here : root_element s place ≡ Some at = is_at_some at (root_element s place) top in
        let node : root ≡ node_of place at = root_here at here in
        subst (λ (z : Item). IsTypedIfKnown s (typed_at_root s (node_of place at)) z)
        (sym (stands_at_root at e is (is_root_there s place at e here is) (node_of place at) y refl st))
        (subst (λ (k : NodeRef). IsTypedIfKnown s (typed_at_root s k) x) node typed_root)
      where
        is_at_some : (k : ℕ) (o : Option ℕ) → IsTrue (is_at k o) → o ≡ Some k
        is_at_some k None h = absurd (false≢true h)
        is_at_some k (Some j) h = ap Some (sym (eqb-true k j h))

        root_here : (k : ℕ) → root_element s place ≡ Some k → root ≡ node_of place k
        root_here k here =
            ap (λ (d : ℕ). node_of d root.element) there.definition
            ∙ ap (node_of place) (same_Some root.element k (sym there.element ∙ here))

    -- the next one that is known
    next_sound : (known : List Known) → AreSound known → (at : ℕ) (e : Element) → slice_get es at ≡ Some e → IsSoundAt at (next_known s place known at e)
    next_sound known sounds at e is y st = by (is_root_node s (node_of place at)) refl
      where
        below_one : (o : Option Under) → under_of s place known at e ≡ o
            → IsTypedIfKnown s (option_and_then (λ u. typed_below s u (node_of place at)) o) y
        below_one None under b typed = absurd (none-some b typed)
        below_one (Some u) under b typed =
            typed_here known sounds at e is y st b
            (ap (λ (o : Option Under). typed_by s o (node_of place at)) under
            ∙ where_not (is_empty (slots s (node_of place at))) (typed_by s (Some u) (node_of place at)) b typed)

        by : (b : Bool) → is_root_node s (node_of place at) ≡ b
            → IsTypedIfKnown s (cond b (typed_at_root s (node_of place at)) (option_and_then (λ u. typed_below s u (node_of place at)) (under_of s place known at e))) y
        by true top = typed_there at e is top y st
        by false top = below_one (under_of s place known at e) refl

    -- so all that is known stays so
    push_sound : (known : List Known) → AreSound known → (at : ℕ) (e : Element) → length known ≡ at → slice_get es at ≡ Some e
        → AreSound (known ++ next_known s place known at e ∷ [])
    push_sound known sounds at e count is k =
        elim (pushed unknown known (next_known s place known at e) k) [
          | inl before ↦ subst (λ (it : Known). IsSoundAt k it) (sym before) (sounds k)
          | inr last ↦ subst (λ (it : Known). IsSoundAt k it) (sym last.1)
              (subst (λ (j : ℕ). IsSoundAt j (next_known s place known at e)) (sym (last.0 ∙ count)) (next_sound known sounds at e is))
        ]

    -- ---- what is told is told by what is known

    -- of which element that is
    pub record IsTold (n : NodeRef) (c : Contradiction) : Type 0 where
      pub known : List Known
      pub sounds : AreSound known
      pub at : ℕ
      pub element : Element
      pub is : slice_get es at ≡ Some element
      pub node : node_of place at ≡ n
      pub told : Contains (contradictions_at s (under_of s place known at element) (node_sliced s place element) (node_of place at)) c

    -- what is told of one element
    told_at : (known : List Known) → AreSound known → (at : ℕ) (e : Element) → slice_get es at ≡ Some e → (n : NodeRef) (c : Contradiction)
        → Contains {X = NodeRef × Contradiction} (found_at s place known at e) (n, c) → IsTold n c
    told_at known sounds at e is n c = by (is_absent_of s place known at e)
      where
        all : List Contradiction
        all = contradictions_at s (under_of s place known at e) (node_sliced s place e) (node_of place at)

        by : (b : Bool) → Contains {X = NodeRef × Contradiction} (cond b [] (map (λ (f : Contradiction). (node_of place at, f)) all)) (n, c) → IsTold n c
        by true has = absurd (contains_none {X = NodeRef × Contradiction} (n, c) has)
        by false has =
            let m = from_map {B = NodeRef × Contradiction} (λ (f : Contradiction). (node_of place at, f)) all (n, c) has in
            record {
              known = known;
              sounds = sounds;
              at = at;
              element = e;
              is = is;
              node = ap (λ (f : NodeRef × Contradiction). f.0) m.is;
              told = subst (λ (f : Contradiction). Contains all f) (ap (λ (f : NodeRef × Contradiction). f.1) m.is) m.among;
            }

    -- each of the elements from a place on
    pub told_from : (known : List Known) → AreSound known → (at : ℕ) → length known ≡ at → (rest : List Element)
        → ((k : ℕ) → slice_get rest k ≡ slice_get es (at + k)) → (n : NodeRef) (c : Contradiction)
        → Contains {X = NodeRef × Contradiction} (found_from s place known at rest) (n, c) → IsTold n c
    told_from known sounds at count [] same n c has = absurd (contains_none {X = NodeRef × Contradiction} (n, c) has)
    told_from known sounds at count (e ∷ rest) same n c has =
        let first : at ≡ at + 0 = omega arith in
        let is : slice_get es at ≡ Some e = ap (slice_get es) first ∙ sym (same 0) in
        let next : List Known = known ++ next_known s place known at e ∷ [] in
        elim (Contains-append_cases (found_at s place known at e) (found_from s place next (suc at) rest) (n, c) has) [
          | inl here ↦ told_at known sounds at e is n c here
          | inr later ↦
              told_from next (push_sound known sounds at e count is) (suc at) (longer known (next_known s place known at e) at count) rest
              (λ k. let more : at + suc k ≡ suc at + k = omega arith in same (suc k) ∙ ap (slice_get es) more) n c later
        ]
      where
        longer : (xs : List Known) (it : Known) (k : ℕ) → length xs ≡ k → length (xs ++ it ∷ []) ≡ suc k
        longer xs it k h = omega (arith, length-append xs (it ∷ []), h)
