-- Where an element is required there is a child of it, which is of one of its types.
use Rattle.std.proofs.Common.{◌≡◌, ◌+◌, ◌<◌, ℕ, zero, suc, Bool, true, false, cond, not, nat_lt, nat_le, List, [], ◌∷◌, ◌++◌, map, length, get_or, Option, None, Some, refl, sym, ap, ◌∙◌, subst, inl, inr, IsTrue, arith}
use Rattle.std.specs.Option.{option_map_or}
use Rattle.std.specs.List.{Contains, flat_map, list_any}
use Rattle.std.specs.Str.{bytes_eq}
use Rattle.std.proofs.lemmas.Bool.{and_parts, not-true, both_ways, false≢true, ltb-true, leb-true}
use Rattle.std.proofs.lemmas.Option.{none-some, same_Some}
use Rattle.std.proofs.lemmas.List.Elements.{Contains-append_left, Contains-append_right}
use Rattle.std.proofs.lemmas.Slice.Eq.{bytes_eq-Decides}
use Rattle.fhir_json.specs.Tree.{Text}
use Rattle.fhir_json.specs.Bytes.{is_empty}
use Rattle.fhir_elements.specs.Element.{Element}
use Rattle.fhir_nodes.specs.declared.node.NodeRef.{NodeRef}
use Rattle.fhir_nodes.specs.Slots.{Slot}
use Rattle.fhir_schema.specs.Schemas.{SchemaValue, element_at, slots, slices, entry_of, holder, criteria, is_closed}
use Rattle.fhir_instance.specs.Items.{Item, Kids, no_kids, kid, kids_of}
use Rattle.fhir_facets.specs.Cardinality.{least_of, are_enough}
use Rattle.fhir_slicing.specs.Belonging.{belongs}
use Rattle.fhir_conformance.specs.Positions.{kid_at, at_kid, members}
use Rattle.fhir_conformance.specs.Asks.{Ask, own, child, too_few, too_many, too_few_in, too_many_in, places_from, places_of, child_ask, apart_ask, in_slice_ask, sequence_asks, slice_asks, sliced_asks, named_asks, slot_asks, slots_ask, kids_asks}
use Rattle.fhir_conformance.specs.Conformance.{Interpretation, Around, inside, below, at_element, conforms, kid_tests}
use Rattle.fhir_contradictions.specs.Typing.{IsTypedBy, children_of, codes_under, allows_code}
use Rattle.fhir_contradictions.specs.Contradictions.{names_differ, is_required, lacks_type}
use Rattle.fhir_contradictions.proofs.Listed.{contains_none, contains_cases, contains_first, contains_later, from_filter, any_from, all_at, in_map, in_flat_map}
use Rattle.fhir_contradictions.proofs.Slotted.{ArePlaced, child_of_type, code_under}
use Rattle.fhir_contradictions.proofs.Asked.{holds, Meets, meets}
use Rattle.fhir_contradictions.proofs.Typed.{IsCoveringAlone, child_allowed}

-- ---- the child at a position

-- a child of that name stands at a position, which is so far behind the first one's
record StandsAt (i : ℕ) (name : Text) (kids : Kids) (j : ℕ) : Type 0 where
  off : ℕ
  at : i + off ≡ j
  itself : Item
  there : kid_at kids off ≡ Some itself
  child : Contains (children_of kids) (name, itself)

-- each position of a name has its child
stands_at : (i : ℕ) (name : Text) (kids : Kids) (j : ℕ) → Contains (places_from i name kids) j → StandsAt i name kids j
stands_at i name no_kids j has = absurd (contains_none j has)
stands_at i name (kid other x kids) j has = go (bytes_eq name other) refl has (stands_at (suc i) name kids j)
  where
    behind : StandsAt (suc i) name kids j → StandsAt i name (kid other x kids) j
    behind h =
        record {
          off = suc h.off;
          at = omega (arith, h.at);
          itself = h.itself;
          there = h.there;
          child = contains_later (other, x) (children_of kids) (name, h.itself) h.child;
        }

    here : name ≡ other → i ≡ j → StandsAt i name (kid other x kids) j
    here same e =
        record {
          off = 0;
          at = omega arith;
          itself = x;
          there = refl;
          child = contains_first (other, x) (children_of kids) (name, x) (ap (λ (n : Text). (n, x)) (sym same));
        }

    go : (b : Bool) → bytes_eq name other ≡ b → Contains (cond b (i ∷ places_from (suc i) name kids) (places_from (suc i) name kids)) j
        → (Contains (places_from (suc i) name kids) j → StandsAt (suc i) name kids j) → StandsAt i name (kid other x kids) j
    go true e has more =
        elim (contains_cases i (places_from (suc i) name kids) j has) [
          | inl first ↦ here ((bytes_eq-Decides name other).0 e) first
          | inr there ↦ behind (more there)
        ]
    go false e has more = behind (more has)

-- the test at a position is that of the child there
pub tests_at : (s : SchemaValue) (meaning : Interpretation) (around : Around) (n : NodeRef) (i : ℕ) (kids : Kids) (j : ℕ) (x : Item) → kid_at kids j ≡ Some x
    → get_or (kid_tests s meaning around i kids) j (λ n. true) n ≡ conforms s meaning (below around (i + j)) x n
tests_at s meaning around n i no_kids j x e = absurd (none-some x e)
tests_at s meaning around n i (kid name y kids) zero x e =
    let here : i ≡ i + 0 = omega arith in
    ap (λ z. conforms s meaning (below around i) z n) (same_Some y x e) ∙ ap (λ k. conforms s meaning (below around k) x n) here
tests_at s meaning around n i (kid name y kids) (suc j) x e =
    let next : suc i + j ≡ i + suc j = omega arith in
    tests_at s meaning around n (suc i) kids j x e ∙ ap (λ k. conforms s meaning (below around k) x n) next

-- ---- there is one

-- of a list that has to be long enough, where that is some, there is a first
first_of : (xs : List ℕ) (least : ℕ) → IsTrue (nat_lt 0 least) → IsTrue (nat_le least (length xs)) → (i : ℕ) × Contains xs i
first_of [] least some enough =
    let a : 0 < least = ltb-true 0 least some in
    let b = leb-true least 0 enough in
    absurd (omega arith)
first_of (x ∷ xs) least some enough = (x, contains_first x xs x refl)

-- where the node's element is required
there_is : (s : SchemaValue) (m : NodeRef) (xs : List ℕ) → IsTrue (option_map_or is_required (element_at s m) false)
    → IsTrue (at_element s (λ e. are_enough e (length xs)) m) → (i : ℕ) × Contains xs i
there_is s m xs = go (element_at s m)
  where
    go : (o : Option Element) → IsTrue (option_map_or is_required o false) → IsTrue (option_map_or (λ e. are_enough e (length xs)) o true) → (i : ℕ) × Contains xs i
    go None required enough = absurd (false≢true required)
    go (Some e) required enough = first_of xs (least_of e) required enough

-- ---- what is asked of the children of a name

module _ (s : SchemaValue) (x : Item) (n h : NodeRef) (slot : Slot) (held : holder s n ≡ Some h) (among : Contains (slots s h) slot) where
  -- where the children of the name stand
  abbrev places : List ℕ
  places = places_of slot.name x

  -- the node asks what is asked of the children of one of its slots
  asked : (ask : Ask) → Contains (named_asks s x slot.name places (entry_of h slot)) ask → Contains (kids_asks s x n) ask
  asked ask has =
      subst (λ (o : Option NodeRef). Contains (option_map_or (slots_ask s x) o []) ask) (sym held)
      (in_flat_map (slot_asks s x h) (slots s h) slot ask among has)

  -- that they are enough
  pub asks_few : Contains (kids_asks s x n) (own (too_few slot.name) (entry_of h slot))
  asks_few =
      let m = entry_of h slot in
      asked (own (too_few slot.name) m)
      (contains_first (own (too_few slot.name) m) (own (too_many slot.name) m ∷ map (child_ask m) places ++ sliced_asks s x slot.name places m) (own (too_few slot.name) m) refl)

  -- the node asks what is asked of each, and of the slices
  behind_counts : (ask : Ask) → Contains (map (child_ask (entry_of h slot)) places ++ sliced_asks s x slot.name places (entry_of h slot)) ask → Contains (kids_asks s x n) ask
  behind_counts ask has =
      let m = entry_of h slot in
      let rest = map (child_ask m) places ++ sliced_asks s x slot.name places m in
      asked ask (contains_later (own (too_few slot.name) m) (own (too_many slot.name) m ∷ rest) ask (contains_later (own (too_many slot.name) m) rest ask has))

  -- that each conforms to the slot's element
  pub asks_child : (i : ℕ) → Contains places i → Contains (kids_asks s x n) (child i (entry_of h slot))
  asks_child i has =
      let m = entry_of h slot in
      behind_counts (child i m)
      (Contains-append_left (map (child_ask m) places) (sliced_asks s x slot.name places m) (child i m) (in_map (child_ask m) places i has))

  module _ (slice : Slot) (one : Contains (slices s (entry_of h slot)) slice) where
    -- a list that contains something is not empty
    not_empty : (some : List Slot) → Contains some slice → is_empty some ≡ false
    not_empty [] has = absurd (contains_none slice has)
    not_empty (y ∷ ys) has = refl

    -- the node asks what is asked of a slice
    asked_of_slice : (ask : Ask) → Contains (slice_asks s x slot.name places (entry_of h slot) slice) ask → Contains (kids_asks s x n) ask
    asked_of_slice ask has =
        behind_counts ask (Contains-append_right (map (child_ask m) places) (sliced_asks s x slot.name places m) ask (go (is_empty (slices s m)) (not_empty (slices s m) one)))
      where
        m : NodeRef
        m = entry_of h slot

        last : List Ask
        last = if_closed (is_closed s m)
          where
            if_closed : Bool → List Ask
            if_closed b = cond b (map (in_slice_ask m) places) [] ++ sequence_asks s x m places

        go : (b : Bool) → b ≡ false → Contains (cond b [] (map (apart_ask m) places ++ (flat_map (slice_asks s x slot.name places m) (slices s m) ++ last))) ask
        go true e = absurd (both_ways true e refl)
        go false e =
            Contains-append_right (map (apart_ask m) places) (flat_map (slice_asks s x slot.name places m) (slices s m) ++ last) ask
            (Contains-append_left (flat_map (slice_asks s x slot.name places m) (slices s m)) last ask
            (in_flat_map (slice_asks s x slot.name places m) (slices s m) slice ask one has))

    -- that those in the slice are enough
    pub asks_few_in : Contains (kids_asks s x n) (own (too_few_in slot.name) (entry_of h slice))
    asks_few_in =
        let k = entry_of h slice in
        let few = own (too_few_in slot.name) k ∷ own (too_many_in slot.name) k ∷ [] in
        asked_of_slice (own (too_few_in slot.name) k)
        (Contains-append_right (map (child_ask k) (members s x k places)) few (own (too_few_in slot.name) k)
        (contains_first (own (too_few_in slot.name) k) (own (too_many_in slot.name) k ∷ []) (own (too_few_in slot.name) k) refl))

    -- that each of them conforms to the slice's element
    pub asks_member : (i : ℕ) → Contains (members s x (entry_of h slice) places) i → Contains (kids_asks s x n) (child i (entry_of h slice))
    asks_member i has =
        let k = entry_of h slice in
        let few = own (too_few_in slot.name) k ∷ own (too_many_in slot.name) k ∷ [] in
        asked_of_slice (child i k)
        (Contains-append_left (map (child_ask k) (members s x k places)) few (child i k) (in_map (child_ask k) (members s x k places) i has))

-- ---- such a child is of one of the types

module _ (s : SchemaValue) (placed : ArePlaced s) (alone : IsCoveringAlone s) (meaning : Interpretation) (around : Around) (x : Item) (by n : NodeRef)
    (apart : IsTrue (names_differ (slots s by))) (typed : IsTypedBy s by x) (met : Meets s meaning around x n) where
  -- no child at a position conforms to a node that allows none of its codes
  no_child : (name : Text) (m : NodeRef) (i : ℕ) → list_any (allows_code s m) (codes_under s by name) ≡ false → Contains (places_of name x) i
      → Contains (kids_asks s x n) (child i m) → ⊥
  no_child name m i none has ask = of (stands_at 0 name (kids_of x) i has)
    where
      of : StandsAt 0 name (kids_of x) i → ⊥
      of k =
          let off : k.off ≡ i = omega (arith, k.at) in
          let asked : IsTrue (holds s meaning around x met.roots (child i m)) = all_at (holds s meaning around x met.roots) (kids_asks s x n) (child i m) met.kids ask in
          let there : kid_at (kids_of x) i ≡ Some k.itself = ap (kid_at (kids_of x)) (sym off) ∙ k.there in
          let conforming : IsTrue (conforms s meaning (below (inside s around x) (0 + i)) k.itself m) =
          sym (tests_at s meaning (inside s around x) m 0 (kids_of x) i k.itself there) ∙ asked in
          let g = child_of_type s by x name k.itself placed apart typed k.child in
          let allows = child_allowed s alone by name k.itself m g (meets s meaning (below (inside s around x) (0 + i)) k.itself m conforming).type in
          both_ways (list_any (allows_code s m) (codes_under s by name)) none
          (any_from (allows_code s m) (codes_under s by name) g.code (code_under s by name k.itself g) allows)

  -- no element that is required lacks a type
  pub none_lacks : (h : NodeRef) (slot : Slot) → holder s n ≡ Some h → Contains (slots s h) slot → IsTrue (lacks_type s by slot.name (entry_of h slot)) → ⊥
  none_lacks h slot held among lacks =
      let m = entry_of h slot in
      let parts = and_parts (option_map_or is_required (element_at s m) false) (not (list_any (allows_code s m) (codes_under s by slot.name))) lacks in
      let few = all_at (holds s meaning around x met.roots) (kids_asks s x n) (own (too_few slot.name) m) met.kids (asks_few s x n h slot held among) in
      let i = there_is s m (places_of slot.name x) parts.0 few in
      no_child slot.name m i.0 (not-true (list_any (allows_code s m) (codes_under s by slot.name)) parts.1) i.1 (asks_child s x n h slot held among i.0 i.1)

  -- nor does a slice
  pub no_slice_lacks : (h : NodeRef) (slot slice : Slot) → holder s n ≡ Some h → Contains (slots s h) slot → Contains (slices s (entry_of h slot)) slice
      → IsTrue (lacks_type s by slot.name (entry_of h slice)) → ⊥
  no_slice_lacks h slot slice held among one lacks =
      let m = entry_of h slice in
      let places = places_of slot.name x in
      let parts = and_parts (option_map_or is_required (element_at s m) false) (not (list_any (allows_code s m) (codes_under s by slot.name))) lacks in
      let few = all_at (holds s meaning around x met.roots) (kids_asks s x n) (own (too_few_in slot.name) m) met.kids (asks_few_in s x n h slot held among slice one) in
      let i = there_is s m (members s x m places) parts.0 few in
      no_child slot.name m i.0 (not-true (list_any (allows_code s m) (codes_under s by slot.name)) parts.1)
      (from_filter (at_kid false (belongs s (criteria s m)) x) places i.0 i.1) (asks_member s x n h slot held among slice one i.0 i.1)
