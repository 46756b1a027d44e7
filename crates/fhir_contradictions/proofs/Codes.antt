-- The types of an element that is no root, in a type definition that can be used: they can be used, too; and where the element or the one
-- that it refers to has children of its own, they are abstract, if the types are regular.
use Rattle.std.proofs.Common.{◌≡◌, ◌<◌, ℕ, zero, suc, Bool, true, false, cond, not, ◌&&◌, ◌||◌, nat_lt, nat_eq, List, [], ◌∷◌, map, length, Option, None, Some, refl, sym, ap, ◌∙◌, subst, inl, inr, IsTrue, arith}
use Rattle.std.specs.Option.{option_map_or, option_and_then, option_or}
use Rattle.std.specs.List.{Contains, list_all, list_any, range_with_len}
use Rattle.std.proofs.lemmas.Bool.{and_parts, and_from, or_cases, or_right, and_right, not-true, not_from_false, both_ways, false≢true, lt-ltb, le-ltb, eqb-true}
use Rattle.std.proofs.lemmas.Option.{none-some, same_Some}
use Rattle.std.proofs.lemmas.List.FromFn.{length-range_with_len, get_or-range_with_len}
use Rattle.fhir_json.specs.Tree.{Text}
use Rattle.fhir_json.specs.Bytes.{is_empty}
use Rattle.fhir_elements.specs.TypeEntry.{TypeEntry}
use Rattle.fhir_elements.specs.Element.{Element}
use Rattle.fhir_definition.specs.Snapshot.{is_root}
use Rattle.fhir_nodes.specs.declared.node.NodeRef.{NodeRef}
use Rattle.fhir_nodes.specs.Types.{is_system}
use Rattle.fhir_nodes.specs.Contents.{element_of, entries_of}
use Rattle.fhir_nodes.specs.Holders.{with_children, has_own_types, typing_entries}
use Rattle.fhir_schema.specs.Settling.{is_usable_type, entry_is_usable, element_is_usable}
use Rattle.fhir_schema.specs.Usability.{IsClosed}
use Rattle.fhir_schema.specs.Schemas.{SchemaValue, has, element_at, is_root_node, slots, target, child_holder}
use Rattle.fhir_contradictions.specs.Typing.{type_codes}
use Rattle.fhir_contradictions.specs.Regular.{rests_on_such, may_have_items, types_inline, element_types_inline, is_irregular, are_regular}
use Rattle.fhir_contradictions.proofs.Listed.{contains_none, all_at, any_from, Mapped, from_map}
use Rattle.fhir_contradictions.proofs.Slotted.{ArePlaced}
use Rattle.fhir_contradictions.proofs.Homes.{IsUsed, IsInner, Home, at_place, used_within, element_there, inner_node, home, home_elements, among_elements}
use Rattle.fhir_contradictions.proofs.Reached.{target_used}

-- a number is in each range that ends behind it
in_range : (n k : ℕ) → k < n → Contains (range_with_len 0 n) k
in_range n k within =
    let long = length-range_with_len 0 n in
    let at = get_or-range_with_len 0 n k k within in
    (k, omega (arith, within, long), at ∙ omega arith)

-- a list whose length isn't 0 isn't empty
not_empty : {A : Type 0} (xs : List A) → nat_eq (length xs) 0 ≡ false → not (is_empty xs) ≡ true
not_empty [] some = absurd (false≢true (sym some))
not_empty (x ∷ xs) some = refl

-- what contains something is longer than that
long_enough : {A : Type 0} (xs : List A) (x : A) → Contains xs x → nat_lt 0 (length xs) ≡ true
long_enough xs x has = lt-ltb 0 (length xs) (omega (arith, has.1))

-- what isn't 0 is above it
length_above : (n : ℕ) → nat_eq n 0 ≡ false → nat_lt 0 n ≡ true
length_above zero some = absurd (false≢true (sym some))
length_above (suc n) some = lt-ltb 0 (suc n) (omega arith)

-- what is 0 isn't
none_above : (b : Bool) (n : ℕ) → nat_eq n 0 ≡ true → (b && nat_lt 0 n) ≡ false
none_above b n none = and_right b (nat_lt 0 n) (le-ltb 0 n (omega (arith, eqb-true n 0 none)))

module _ (s : SchemaValue) where
  -- the codes of type entries
  abbrev codes_in : List TypeEntry → List Text
  codes_in entries = map (λ (entry : TypeEntry). entry.code) entries

  -- the codes of an element's types
  codes_are : (n : NodeRef) (g : IsInner s n) → type_codes s n ≡ codes_in (typing_entries s.definitions n g.element)
  codes_are n g = ap (λ (o : Option Element). option_map_or (λ (e : Element). codes_in (typing_entries s.definitions n e)) o []) g.at

  -- what has children is the node itself
  with_children_is : (n h : NodeRef) → with_children s.definitions n ≡ Some h → (nat_eq (length (slots s n)) 0 ≡ false) × (n ≡ h)
  with_children_is n h = go (nat_eq (length (slots s n)) 0)
    where
      go : (b : Bool) → cond b None (Some n) ≡ Some h → (b ≡ false) × (n ≡ h)
      go true is = absurd (none-some h is)
      go false is = (refl, same_Some n h is)

  module _ (placed : ArePlaced s) (closed : IsClosed s.definitions s.reasons) where
    -- ---- they can be used

    -- the types that are written at the element can
    own_usable : (n : NodeRef) (g : IsInner s n) (entry : TypeEntry) → Contains g.element.types entry
        → IsTrue (entry_is_usable s.definitions s.reasons entry)
    own_usable n g entry has = in_home (home s placed closed n g.used)
      where
        in_home : Home s n → IsTrue (entry_is_usable s.definitions s.reasons entry)
        in_home h =
            let es = h.itself.elements in
            let all = and_parts (is_usable_type s.definitions s.reasons h.itself.type) (list_all (element_is_usable s.definitions s.reasons) es) h.types in
            let each = all_at (element_is_usable s.definitions s.reasons) es g.element all.1 (among_elements s n h g.element g.at) in
            elim (or_cases (is_root g.element) (list_all (entry_is_usable s.definitions s.reasons) g.element.types) each) [
              | inl root ↦ absurd (both_ways (is_root g.element) g.inner root)
              | inr usable ↦ all_at (entry_is_usable s.definitions s.reasons) g.element.types entry usable has
            ]

    -- so can those of the element to which it refers
    entries_usable : (n : NodeRef) (g : IsInner s n) (entry : TypeEntry) → Contains (typing_entries s.definitions n g.element) entry
        → IsTrue (entry_is_usable s.definitions s.reasons entry)
    entries_usable n g entry = go (has_own_types s.definitions n g.element) (target s n) refl
      where
        of_target : (t : NodeRef) → target s n ≡ Some t → (e : Element) → element_at s t ≡ Some e → (b : Bool) → is_root e ≡ b
            → Contains (cond b [] e.types) entry → IsTrue (entry_is_usable s.definitions s.reasons entry)
        of_target t is e at true root has = absurd (contains_none entry has)
        of_target t is e at false root has =
            own_usable t (record { used = target_used s placed closed n t g.used is; element = e; at = at; inner = root }) entry has

        there : (t : NodeRef) → target s n ≡ Some t → (o : Option Element) → element_at s t ≡ o
            → Contains (option_map_or entries_of o g.element.types) entry → IsTrue (entry_is_usable s.definitions s.reasons entry)
        there t is None at has = own_usable n g entry has
        there t is (Some e) at has = of_target t is e at (is_root e) refl has

        go : (b : Bool) (o : Option NodeRef) → target s n ≡ o
            → Contains (cond b g.element.types (option_map_or entries_of (option_and_then (element_of s.definitions) o) g.element.types)) entry
            → IsTrue (entry_is_usable s.definitions s.reasons entry)
        go true o is has = own_usable n g entry has
        go false None is has = own_usable n g entry has
        go false (Some t) is has = there t is (element_at s t) refl has

    -- a code of its types is of a type that can be used, unless it is one of FHIRPath's own
    pub code_usable : (n : NodeRef) (code : Text) → IsInner s n → Contains (type_codes s n) code → is_system code ≡ false
        → IsTrue (is_usable_type s.definitions s.reasons code)
    code_usable n code g has own =
        made (from_map (λ (entry : TypeEntry). entry.code) (typing_entries s.definitions n g.element) code
        (subst (λ (l : List Text). Contains l code) (codes_are n g) has))
      where
        made : Mapped (λ (entry : TypeEntry). entry.code) (typing_entries s.definitions n g.element) code
            → IsTrue (is_usable_type s.definitions s.reasons code)
        made m =
            elim (or_cases (is_system m.from.code) (is_usable_type s.definitions s.reasons m.from.code) (entries_usable n g m.from m.among)) [
              | inl system ↦ absurd (both_ways (is_system code) own (ap is_system (sym m.is) ∙ system))
              | inr usable ↦ subst (λ (t : Text). IsTrue (is_usable_type s.definitions s.reasons t)) m.is usable
            ]

    -- ---- the node that has the children of the element's items

    -- the node is an element that is no root, has children, and has that code among those of its types
    pub record Holds (h : NodeRef) (code : Text) : Type 0 where
      pub inner : IsInner s h
      pub some : nat_eq (length (slots s h)) 0 ≡ false
      pub among : Contains (type_codes s h) code

    -- the element's own is one, if it has children
    itself_holds : (n h : NodeRef) (code : Text) → IsInner s n → Contains (type_codes s n) code → with_children s.definitions n ≡ Some h
        → Holds h code
    itself_holds n h code g has is =
        let parts = with_children_is n h is in
        subst (λ (m : NodeRef). Holds m code) parts.1 (record { inner = g; some = parts.0; among = has })

    -- where it has none, its codes are those of the types that are written at the element to which it refers
    target_code : (n t : NodeRef) (g : IsInner s n) (e : Element) (code : Text) → target s n ≡ Some t → element_at s t ≡ Some e
        → nat_eq (length (slots s n)) 0 ≡ true → Contains (type_codes s n) code → Contains (codes_in (entries_of e)) code
    target_code n t g e code is at none has =
        let own : has_own_types s.definitions n g.element ≡ false = none_above (nat_lt 0 (length g.element.types)) (length (slots s n)) none in
        let entries : typing_entries s.definitions n g.element ≡ entries_of e = rw (own, is, at) refl in
        subst (λ (l : List Text). Contains l code) (codes_are n g ∙ ap codes_in entries) has

    -- where an element has children, the codes of the types that are written there are its own
    own_code : (t : NodeRef) (g : IsInner s t) (code : Text) → nat_eq (length (slots s t)) 0 ≡ false → Contains (codes_in g.element.types) code
        → Contains (type_codes s t) code
    own_code t g code some has =
        made (from_map (λ (entry : TypeEntry). entry.code) g.element.types code has)
      where
        made : Mapped (λ (entry : TypeEntry). entry.code) g.element.types code → Contains (type_codes s t) code
        made m =
            let own : has_own_types s.definitions t g.element ≡ true =
            and_from (nat_lt 0 (length g.element.types)) (nat_lt 0 (length (slots s t))) (long_enough g.element.types m.from m.among)
            (length_above (length (slots s t)) some) in
            let entries : typing_entries s.definitions t g.element ≡ g.element.types = rw own refl in
            subst (λ (l : List Text). Contains l code) (sym (codes_are t g ∙ ap codes_in entries)) has

    -- the node to which it refers is one, if that has the children
    target_holds : (n t h : NodeRef) (code : Text) → IsInner s n → target s n ≡ Some t → nat_eq (length (slots s n)) 0 ≡ true
        → Contains (type_codes s n) code → with_children s.definitions t ≡ Some h → Holds h code
    target_holds n t h code g is none has held = there (element_at s t) refl
      where
        used : IsUsed s t
        used = target_used s placed closed n t g.used is

        some : nat_eq (length (slots s t)) 0 ≡ false
        some = (with_children_is t h held).0

        of_target : (e : Element) → element_at s t ≡ Some e → (b : Bool) → is_root e ≡ b → Contains (codes_in (cond b [] e.types)) code
            → Holds h code
        of_target e at true root codes = absurd (contains_none code codes)
        of_target e at false root codes =
            let inner : IsInner s t = record { used = used; element = e; at = at; inner = root } in
            itself_holds t h code inner (own_code t inner code some codes) held

        there : (o : Option Element) → element_at s t ≡ o → Holds h code
        there None at = absurd (element_there s t used at)
        there (Some e) at = of_target e at (is_root e) refl (target_code n t g e code is at none has)

    -- whichever has the children is one
    pub holder_holds : (n h : NodeRef) (code : Text) → IsInner s n → Contains (type_codes s n) code → child_holder s n ≡ Some h
        → Holds h code
    holder_holds n h code g has = go (nat_eq (length (slots s n)) 0) refl (target s n) refl
      where
        go : (b : Bool) → nat_eq (length (slots s n)) 0 ≡ b → (o : Option NodeRef) → target s n ≡ o
            → option_and_then (with_children s.definitions) (option_or (cond b None (Some n)) o) ≡ Some h → Holds h code
        go false some o is held = itself_holds n h code g has held
        go true none None is held = absurd (none-some h held)
        go true none (Some t) is held = target_holds n t h code g is none has held

    -- ---- regular types

    -- where types are regular, the code of such a node is that of an abstract type
    pub none_inline : IsTrue (are_regular s) → (h : NodeRef) (code : Text) → Holds h code → may_have_items s code ≡ true → ⊥
    none_inline regular h code g may = in_home (home s placed closed h g.inner.used)
      where
        some : Bool
        some = list_any (may_have_items s) (type_codes s h)

        inline : types_inline s h ≡ true
        inline =
            and_from (not (is_empty (slots s h))) (not (is_root_node s h) && some) (not_empty (slots s h) g.some)
            (and_from (not (is_root_node s h)) some (not_from_false (is_root_node s h) (inner_node s h g.inner))
            (any_from (may_have_items s) (type_codes s h) code g.among may))

        in_home : Home s h → ⊥
        in_home d =
            let places = range_with_len 0 (length d.itself.elements) in
            let here : element_types_inline s d.itself h.element ≡ true =
            ap (λ (place : ℕ). types_inline s (record { definition = place; element = h.element })) d.place ∙ inline in
            let within : h.element < length d.itself.elements =
            subst (λ (l : List Element). h.element < length l) (home_elements s h d) (used_within s h g.inner.used) in
            let one : list_any (element_types_inline s d.itself) places ≡ true =
            any_from (element_types_inline s d.itself) places h.element (in_range (length d.itself.elements) h.element within) here in
            let irregular : is_irregular s d.itself ≡ true =
            and_from d.itself.is_type (rests_on_such s d.itself || list_any (element_types_inline s d.itself) places) d.is_type
            (or_right (rests_on_such s d.itself) (list_any (element_types_inline s d.itself) places) one) in
            both_ways (list_any (is_irregular s) s.definitions) (not-true (list_any (is_irregular s) s.definitions) regular)
            (any_from (is_irregular s) s.definitions d.itself (at_place s.definitions h.definition d.itself d.there) irregular)
