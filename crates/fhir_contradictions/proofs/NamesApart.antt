-- In a definition that can be used no two children of an element have one name, and no two slices of one.
use Rattle.std.proofs.Common.{◌≡◌, ◌+◌, ◌-◌, ◌≤◌, ℕ, zero, suc, Bool, true, false, cond, not, ◌&&◌, List, [], ◌∷◌, ◌++◌, map, filter, take, length, get_or, nat_lt, Option, None, Some, is_some, is_none, refl, sym, ap, ◌∙◌, subst, inl, inr, IsTrue, arith}
use Rattle.std.specs.Option.{option_map, option_map_or, option_and_then}
use Rattle.std.specs.List.{Contains, list_any, slice_get}
use Rattle.std.specs.Str.{bytes_eq}
use Rattle.std.proofs.lemmas.Bool.{and_parts, and_from, or_cases, false≢true}
use Rattle.std.proofs.lemmas.List.Folds.{list_all-append}
use Rattle.std.proofs.lemmas.Option.{none-some, same_Some, option_and_then_some}
use Rattle.std.proofs.lemmas.Slice.Eq.{bytes_eq-Decides}
use Rattle.fhir_json.specs.Tree.{Text, Tree}
use Rattle.fhir_json.specs.Bytes.{dot, colon}
use Rattle.fhir_json.specs.Sound.{is_among}
use Rattle.fhir_names.specs.Parents.{front_of, name_of, slice_of, sliced_of}
use Rattle.fhir_elements.specs.declared.reason.Reason.{Reason}
use Rattle.fhir_elements.specs.declared.reason.Reason.TheVariants.{WrongId}
use Rattle.fhir_elements.specs.Tests.{first_of, all_hold}
use Rattle.fhir_elements.specs.Element.{Element, fields_of}
use Rattle.fhir_definition.specs.Snapshot.{id_place, is_at, ids_differ, child_place, slice_place}
use Rattle.fhir_definition.specs.Children.{under_from, under_each_from}
use Rattle.fhir_definition.specs.Definition.{Definition, is_wrong_id, element_trees, element_faults, own_tests, definition_of, definitions_from}
use Rattle.fhir_nodes.specs.declared.node.NodeRef.{NodeRef}
use Rattle.fhir_nodes.specs.Slots.{Slot, id_at, slot_at, slice_at, is_slot, slots_under, slots_of, slices_of}
use Rattle.fhir_package.specs.Definitions.{Definitions}
use Rattle.fhir_schema.specs.Settling.{reason_at, fault_of}
use Rattle.fhir_schema.specs.Usability.{IsClosed}
use Rattle.fhir_schema.specs.Schemas.{SchemaValue, schema_of, is_usable, elements_at, has, slots, slices}
use Rattle.fhir_contradictions.specs.Contradictions.{names_differ}
use Rattle.fhir_contradictions.proofs.Listed.{contains_none, contains_cases, contains_first, contains_later, from_filter, all_at, at_map, past_map}
use Rattle.fhir_contradictions.proofs.Slotted.{ArePlaced}
use Rattle.fhir_contradictions.proofs.IdParts.{at_some, child_id, slice_id, one_id, one_place}

-- ---- what stands under an element

-- the element at a place, and that it stands under the other one
record IsUnder (up : Element → Option ℕ) (p i : ℕ) (es : List Element) (place : ℕ) : Type 0 where
  off : ℕ
  at : i + off ≡ place
  element : Element
  there : slice_get es off ≡ Some element
  under : up element ≡ Some p

-- each of those that stand under an element does so
under : (up : Element → Option ℕ) (p i : ℕ) (es : List Element) (place : ℕ) → Contains (under_from p i (map up es)) place → IsUnder up p i es place
under up p i [] place has = absurd (contains_none place has)
under up p i (x ∷ es) place has = go (is_at p (up x)) refl has (under up p (suc i) es place)
  where
    here : IsTrue (is_at p (up x)) → i ≡ place → IsUnder up p i (x ∷ es) place
    here is at =
        record {
          off = 0;
          at = omega (arith, at);
          element = x;
          there = refl;
          under = at_some p (up x) is;
        }

    behind : IsUnder up p (suc i) es place → IsUnder up p i (x ∷ es) place
    behind u =
        record {
          off = suc u.off;
          at = omega (arith, u.at);
          element = u.element;
          there = u.there;
          under = u.under;
        }

    go : (b : Bool) → is_at p (up x) ≡ b → Contains (cond b (i ∷ under_from p (suc i) (map up es)) (under_from p (suc i) (map up es))) place
        → (Contains (under_from p (suc i) (map up es)) place → IsUnder up p (suc i) es place) → IsUnder up p i (x ∷ es) place
    go true is has more =
        elim (contains_cases i (under_from p (suc i) (map up es)) place has) [
          | inl first ↦ here is first
          | inr there ↦ behind (more there)
        ]
    go false is has more = behind (more has)

-- each number is larger than those before it, and the first not below that one
abbrev Rises : ℕ → List ℕ → Type 0
Rises i [] = Unit {0}
Rises i (x ∷ xs) = (i ≤ x) × Rises (suc x) xs

-- so they rise from a smaller one
rises_lower : (i j : ℕ) (xs : List ℕ) → i ≤ j → Rises j xs → Rises i xs
rises_lower i j [] l h = tt
rises_lower i j (x ∷ xs) l h = (omega (arith, h.0), h.1)

-- those that pass a test rise too
rises_kept : (p : ℕ → Bool) (i : ℕ) (xs : List ℕ) → Rises i xs → Rises i (filter p xs)
rises_kept p i [] h = tt
rises_kept p i (x ∷ xs) h = go (p x) (rises_kept p (suc x) xs h.1)
  where
    go : (b : Bool) → Rises (suc x) (filter p xs) → Rises i (cond b (x ∷ filter p xs) (filter p xs))
    go true more = (h.0, more)
    go false more = rises_lower i (suc x) (filter p xs) (omega (arith, h.0)) more

-- so do the places of those that stand under an element
under_rises : (p i : ℕ) (ups : List (Option ℕ)) → Rises i (under_from p i ups)
under_rises p i [] = tt
under_rises p i (up ∷ ups) = go (is_at p up) (under_rises p (suc i) ups)
  where
    go : (b : Bool) → Rises (suc i) (under_from p (suc i) ups) → Rises i (cond b (i ∷ under_from p (suc i) ups) (under_from p (suc i) ups))
    go true more = (omega arith, more)
    go false more = rises_lower i (suc i) (under_from p (suc i) ups) (omega arith) more

-- none is below the least
not_below : (i : ℕ) (xs : List ℕ) (a : ℕ) → Rises i xs → Contains xs a → i ≤ a
not_below i [] a h has = absurd (contains_none a has)
not_below i (x ∷ xs) a h has =
    elim (contains_cases x xs a has) [
      | inl first ↦ omega (arith, h.0, first)
      | inr there ↦ omega (arith, h.0, not_below (suc x) xs a h.1 there)
    ]

module _ (f : ℕ → Slot) where
  -- whose name is among those of others is that of one of them
  from_among : (name : Text) (xs : List ℕ) → IsTrue (is_among name (map (λ (slot : Slot). slot.name) (map f xs)))
      → (a : ℕ) × Contains xs a × (name ≡ (f a).name)
  from_among name [] h = absurd (false≢true h)
  from_among name (x ∷ xs) h =
      elim (or_cases (bytes_eq name (f x).name) (is_among name (map (λ (slot : Slot). slot.name) (map f xs))) h) [
        | inl here ↦ (x, contains_first x xs x refl, (bytes_eq-Decides name (f x).name).0 here)
        | inr there ↦ later (from_among name xs there)
      ]
    where
      later : ((a : ℕ) × Contains xs a × (name ≡ (f a).name)) → (a : ℕ) × Contains (x ∷ xs) a × (name ≡ (f a).name)
      later g = (g.0, contains_later x xs g.0 g.1, g.2)

  -- numbers that rise give slots of as many names, where two that give one name are one
  apart : (i : ℕ) (xs : List ℕ) → Rises i xs → ((a b : ℕ) → Contains xs a → Contains xs b → (f a).name ≡ (f b).name → a ≡ b)
      → IsTrue (names_differ (map f xs))
  apart i [] rises one = refl
  apart i (x ∷ xs) rises one =
      and_from (not (is_among (f x).name names)) (names_differ (map f xs)) (go (is_among (f x).name names) refl)
      (apart (suc x) xs rises.1 (λ a b has_a has_b same. one a b (contains_later x xs a has_a) (contains_later x xs b has_b) same))
    where
      names : List Text
      names = map (λ (slot : Slot). slot.name) (map f xs)

      go : (b : Bool) → is_among (f x).name names ≡ b → IsTrue (not b)
      go false is = refl
      go true is =
          let g = from_among (f x).name xs is in
          let same : x ≡ g.0 = one x g.0 (contains_first x xs x refl) (contains_later x xs g.0 g.1) g.2 in
          let later : suc x ≤ g.0 = not_below (suc x) xs g.0 rises.1 g.1 in
          absurd (omega (arith, same, later))

-- ---- children and slices

-- the id at a place
id_there : (es : List Element) (place : ℕ) (e : Element) → slice_get es place ≡ Some e → id_at es place ≡ e.id
id_there es place e at = ap (λ (o : Option Element). option_map_or (λ (e : Element). e.id) o []) at

module _ (es : List Element) (differing : IsTrue (ids_differ es)) (p : ℕ) where
  -- a child stands under the element whose id is in front of its own
  record IsChild (a : ℕ) : Type 0 where
    element : Element
    there : slice_get es a ≡ Some element
    front : Text
    fronted : front_of element.id ≡ Some front
    at : id_place es front ≡ Some p
    whole : slice_of element.id ≡ None

  -- each of those that are its children is one
  child : (a : ℕ) → Contains (under_from p 0 (map (child_place es) es)) a → IsChild a
  child a has = made (under (child_place es) p 0 es a has)
    where
      made : IsUnder (child_place es) p 0 es a → IsChild a
      made u = by_slice (slice_of u.element.id) refl u.under
        where
          fronted : slice_of u.element.id ≡ None → (front : Text) → front_of u.element.id ≡ Some front → id_place es front ≡ Some p → IsChild a
          fronted whole front is at =
              let off : u.off ≡ a = omega (arith, u.at) in
              record {
                element = u.element;
                there = subst (λ (k : ℕ). slice_get es k ≡ Some u.element) off u.there;
                front = front;
                fronted = is;
                at = at;
                whole = whole;
              }

          by_slice : (o : Option Text) → slice_of u.element.id ≡ o
              → cond (is_some o) None (option_and_then (id_place es) (front_of u.element.id)) ≡ Some p → IsChild a
          by_slice None whole e = option_and_then_some (id_place es) (front_of u.element.id) p e (fronted whole)
          by_slice (Some name) is e = absurd (none-some p e)

  -- two children of one name are one
  one_child : (a b : ℕ) → Contains (under_from p 0 (map (child_place es) es)) a → Contains (under_from p 0 (map (child_place es) es)) b
      → (slot_at es a).name ≡ (slot_at es b).name → a ≡ b
  one_child a b has_a has_b same =
      let x = child a has_a in
      let y = child b has_b in
      let front : x.front ≡ y.front = one_id es x.front y.front p x.at y.at in
      let name : name_of x.element.id ≡ name_of y.element.id =
      sym (ap name_of (id_there es a x.element x.there)) ∙ (same ∙ ap name_of (id_there es b y.element y.there)) in
      one_place es a b x.element y.element differing x.there y.there
      (sym (child_id x.element.id x.front x.fronted x.whole)
      ∙ (ap (λ (t : Text). t ++ dot ∷ name_of x.element.id) front
      ∙ (ap (λ (t : Text). y.front ++ dot ∷ t) name ∙ child_id y.element.id y.front y.fronted y.whole)))

  -- a slice stands under the element whose id is in front of its name
  record IsSlice (a : ℕ) : Type 0 where
    element : Element
    there : slice_get es a ≡ Some element
    sliced : Text
    cut : sliced_of element.id ≡ Some sliced
    at : id_place es sliced ≡ Some p
    name : Text
    named : slice_of element.id ≡ Some name

  -- each of those that are its slices is one
  slice : (a : ℕ) → Contains (under_from p 0 (map (slice_place es) es)) a → IsSlice a
  slice a has = made (under (slice_place es) p 0 es a has)
    where
      made : IsUnder (slice_place es) p 0 es a → IsSlice a
      made u = option_and_then_some (id_place es) (sliced_of u.element.id) p u.under cut
        where
          cut : (sliced : Text) → sliced_of u.element.id ≡ Some sliced → id_place es sliced ≡ Some p → IsSlice a
          cut sliced is at = named (slice_of u.element.id) refl is
            where
              named : (o : Option Text) → slice_of u.element.id ≡ o
                  → option_map (λ (s : Text). take (length u.element.id - (length s + 1)) u.element.id) o ≡ Some sliced → IsSlice a
              named None none e = absurd (none-some sliced e)
              named (Some name) some e =
                  let off : u.off ≡ a = omega (arith, u.at) in
                  record {
                    element = u.element;
                    there = subst (λ (k : ℕ). slice_get es k ≡ Some u.element) off u.there;
                    sliced = sliced;
                    cut = is;
                    at = at;
                    name = name;
                    named = some;
                  }

  -- the name of one
  slice_name : (a : ℕ) (x : IsSlice a) → (slice_at es a).name ≡ x.name
  slice_name a x =
      ap (λ (id : Text). option_map_or (λ (s : Text). s) (slice_of id) []) (id_there es a x.element x.there)
      ∙ ap (λ (o : Option Text). option_map_or (λ (s : Text). s) o []) x.named

  -- two slices of one name are one
  one_slice : (a b : ℕ) → Contains (under_from p 0 (map (slice_place es) es)) a → Contains (under_from p 0 (map (slice_place es) es)) b
      → (slice_at es a).name ≡ (slice_at es b).name → a ≡ b
  one_slice a b has_a has_b same =
      let x = slice a has_a in
      let y = slice b has_b in
      let sliced : x.sliced ≡ y.sliced = one_id es x.sliced y.sliced p x.at y.at in
      let name : x.name ≡ y.name = sym (slice_name a x) ∙ (same ∙ slice_name b y) in
      one_place es a b x.element y.element differing x.there y.there
      (sym (slice_id x.element.id x.sliced x.name x.cut x.named)
      ∙ (ap (λ (t : Text). t ++ colon ∷ x.name) sliced
      ∙ (ap (λ (t : Text). y.sliced ++ colon ∷ t) name ∙ slice_id y.element.id y.sliced y.name y.cut y.named)))

-- the slots under an element differ by their names
slots_apart : (ds : List Definition) (d : Definition) (p : ℕ) → IsTrue (ids_differ d.elements)
    → IsTrue (names_differ (slots_under ds d (under_from p 0 (map (child_place d.elements) d.elements))))
slots_apart ds d p differing =
    let es = d.elements in
    let all = under_from p 0 (map (child_place es) es) in
    apart (slot_at es) 0 (filter (is_slot ds d) all) (rises_kept (is_slot ds d) 0 all (under_rises p 0 (map (child_place es) es)))
    (λ a b has_a has_b same. one_child es differing p a b (from_filter (is_slot ds d) all a has_a) (from_filter (is_slot ds d) all b has_b) same)

-- so do the slices of one
slices_apart : (es : List Element) (p : ℕ) → IsTrue (ids_differ es)
    → IsTrue (names_differ (map (slice_at es) (under_from p 0 (map (slice_place es) es))))
slices_apart es p differing =
    apart (slice_at es) 0 (under_from p 0 (map (slice_place es) es)) (under_rises p 0 (map (slice_place es) es)) (one_slice es differing p)

-- what is so of those that stand under each place is so at any place
at_each : (f : List ℕ → List Slot) (ups : List (Option ℕ)) → ((p : ℕ) → IsTrue (names_differ (f (under_from p 0 ups)))) → (p n k : ℕ)
    → IsTrue (names_differ (get_or (map f (under_each_from p n ups)) k []))
at_each f ups each p zero k = refl
at_each f ups each p (suc n) zero = each p
at_each f ups each p (suc n) (suc k) = at_each f ups each (suc p) n k

-- ---- a definition without a fault

-- tests of which none fails hold
all_held : {R : Type 0} (ts : List (Bool × R)) → first_of ts ≡ None → IsTrue (all_hold ts)
all_held [] e = refl
all_held (t ∷ ts) e = go t.0 e (all_held ts)
  where
    go : (b : Bool) → cond b (first_of ts) (Some t.1) ≡ None → (first_of ts ≡ None → IsTrue (all_hold ts)) → IsTrue (b && all_hold ts)
    go true e behind = behind e
    go false e behind = absurd (none-some t.1 (sym e))

-- the ids of one differ
ids_of : (place : ℕ) (url : Text) (t : Tree) → (definition_of place url t).fault ≡ None → IsTrue (ids_differ (definition_of place url t).elements)
ids_of place url t none =
    let es = map fields_of (element_trees t) in
    let all : IsTrue (all_hold (own_tests url t es)) = all_held (own_tests url t es) none in
    let ids = not (list_any is_wrong_id (element_faults t)) && ids_differ es in
    let last : IsTrue ids = all_at (λ (test : Bool × Reason). test.0) (own_tests url t es) (ids, WrongId) all (3, omega arith, refl) in
    (and_parts (not (list_any is_wrong_id (element_faults t))) (ids_differ es) last).1

-- so they do in one of a package
ids_at : (n : ℕ) (es : List (Text × Tree)) (k : ℕ) (d : Definition) → slice_get (definitions_from n es) k ≡ Some d → d.fault ≡ None
    → IsTrue (ids_differ d.elements)
ids_at n [] k d at none = absurd (none-some d at)
ids_at n (x ∷ es) zero d at none =
    let same : definition_of n x.0 x.1 ≡ d = same_Some (definition_of n x.0 x.1) d at in
    subst (λ (d : Definition). IsTrue (ids_differ d.elements)) same (ids_of n x.0 x.1 (ap (λ (d : Definition). d.fault) same ∙ none))
ids_at n (x ∷ es) (suc k) d at none = ids_at (suc n) es k d at none

module _ (p : Definitions) (placed : ArePlaced (schema_of p)) (closed : IsClosed (schema_of p).definitions (schema_of p).reasons) where
  abbrev s : SchemaValue
  s = schema_of p

  abbrev ds : List Definition
  ds = s.definitions

  -- and in one that can be used
  ids_usable : (place : ℕ) (d : Definition) → slice_get ds place ≡ Some d → IsTrue (is_usable s place) → IsTrue (ids_differ d.elements)
  ids_usable place d at usable =
      let is : d.place ≡ place = placed place d at in
      let none : reason_at s.reasons place ≡ None = none_is (reason_at s.reasons place) usable in
      let held = closed d (ap (slice_get ds) is ∙ at) (ap (reason_at s.reasons) is ∙ none) in
      let own = and_parts _ _ (sym (list_all-append (λ test. test.0) (fault_of d) _) ∙ held) in
      ids_at 0 p.structure_definitions place d at (no_fault d.fault own.0)
    where
      none_is : {A : Type 0} (o : Option A) → IsTrue (is_none o) → o ≡ None
      none_is None e = refl
      none_is (Some x) e = absurd (false≢true e)

      no_fault : (o : Option Reason) → IsTrue (all_hold (option_map_or (λ fault. let ts : List (Bool × Reason) = (false, fault) ∷ [] in ts) o []))
          → o ≡ None
      no_fault None e = refl
      no_fault (Some r) e = absurd (false≢true e)

  -- ---- its children and slices

  -- what is so of each of a definition's lists is so of that of a node, where the definition's ids differ
  at_node : (f : Definition → List (List Slot)) (n : NodeRef)
      → ((d : Definition) → IsTrue (ids_differ d.elements) → IsTrue (names_differ (get_or (f d) n.element [])))
      → IsTrue (has s n) → IsTrue (names_differ (get_or (get_or (map f ds) n.definition []) n.element []))
  at_node f n each known = go (slice_get ds n.definition) refl
    where
      usable : IsTrue (is_usable s n.definition)
      usable = (and_parts (is_usable s n.definition) (nat_lt n.element (length (elements_at s n.definition))) known).0

      go : (o : Option Definition) → slice_get ds n.definition ≡ o → IsTrue (names_differ (get_or (get_or (map f ds) n.definition []) n.element []))
      go None is = ap (λ (l : List (List Slot)). names_differ (get_or l n.element [])) (past_map f ds n.definition [] is)
      go (Some d) is =
          ap (λ (l : List (List Slot)). names_differ (get_or l n.element [])) (at_map f ds n.definition d [] is)
          ∙ each d (ids_usable n.definition d is usable)

  -- no two children of a node have one name
  pub children_apart : (n : NodeRef) → IsTrue (has s n) → IsTrue (names_differ (slots s n))
  children_apart n =
      at_node (slots_of ds) n
      (λ d differing. at_each (slots_under ds d) (map (child_place d.elements) d.elements) (λ q. slots_apart ds d q differing) 0
      (length (map (child_place d.elements) d.elements)) n.element)

  -- no two slices of a node have one name
  pub slices_differ : (n : NodeRef) → IsTrue (has s n) → IsTrue (names_differ (slices s n))
  slices_differ n =
      at_node (λ d. slices_of d.elements) n
      (λ d differing. at_each (map (slice_at d.elements)) (map (slice_place d.elements) d.elements) (λ q. slices_apart d.elements q differing) 0
      (length (map (slice_place d.elements) d.elements)) n.element)
