-- What a node asks, part by part.
use Rattle.std.proofs.Common.{◌≡◌, ℕ, Bool, true, false, List, [], ◌∷◌, ◌++◌, map, refl, sym, ap, ◌∙◌, ◌&&◌, ◌||◌, IsTrue, Option, Some, None, cond}
use Rattle.std.proofs.lemmas.Bool.{true≢false}
use Rattle.std.proofs.lemmas.List.{append-nil}
use Rattle.std.specs.List.{list_all, flat_map}
use Rattle.std.specs.Option.{option_map_or}
use Rattle.std.proofs.lemmas.List.Folds.{list_all-append}
use Rattle.fhir_json.specs.Tree.{Text}
use Rattle.fhir_json.specs.Bytes.{is_empty}
use Rattle.fhir_elements.specs.Element.{Element}
use Rattle.fhir_nodes.specs.declared.node.NodeRef.{NodeRef}
use Rattle.fhir_nodes.specs.Slots.{Slot}
use Rattle.fhir_schema.specs.Covers.{covers, type_at}
use Rattle.fhir_schema.specs.Schemas.{SchemaValue, element_at, is_root_node, type_root, slices, is_closed, entry_of, types as node_types}
use Rattle.fhir_instance.specs.Items.{Item, type_of}
use Rattle.fhir_facets.specs.Cardinality.{are_enough, are_within}
use Rattle.fhir_facets.specs.Order.{is_ordered, is_open_at_end}
use Rattle.fhir_slicing.specs.Belonging.{is_apart, is_sliced}
use Rattle.fhir_conformance.specs.Positions.{at_kid, members}
use Rattle.fhir_conformance.specs.Asks.{Ask, own, too_few_in, too_many_in, profile, child_ask, facet_asks, constraint_asks, own_root, entry_roots, profile_asks, places_of, apart_ask, in_slice_ask, order_asks, rest_ask, behind_rest, sequence_asks, slice_asks, sliced_asks, slot_asks, kids_asks, root_asks, inner_asks}
use Rattle.fhir_conformance.specs.Conformance.{Around, constant, conforms, at_element, count_of, count_in, fixed_at, pattern_at, range_at, length_at, binding_at, types_hold}
use Rattle.fhir_conformance.proofs.ByAsks.{IsOfType, IsOfCanonical, conforms_to}
use Rattle.fhir_walk.specs.Walks.{none, passes, pass_all, is_rightly_sliced, facets_hold, rest_holds}

regroup : (a b c d e : Bool) → (a && (b && (c && (d && (e && true))))) ≡ ((a && b) && ((c && d) && e))
regroup true true true true true = refl
regroup true true true true false = refl
regroup true true true false e = refl
regroup true true false d e = refl
regroup true false c d e = refl
regroup false b c d e = refl

one : (b : Bool) → (b && true) ≡ b
one true = refl
one false = refl

module _ (s : SchemaValue) (here : Around) (x : Item) where
  pub joined : (xs ys : List Ask) → pass_all s here x (xs ++ ys) ≡ (pass_all s here x xs && pass_all s here x ys)
  joined xs ys = list_all-append (passes s here x) xs ys

  pub facet_parts : (n : NodeRef) → pass_all s here x (facet_asks n) ≡ option_map_or (facets_hold s x) (element_at s n) true
  facet_parts n = by_case (element_at s n)
    where
      by_case : (o : Option Element)
          → (option_map_or (fixed_at x) o true && (option_map_or (pattern_at x) o true && (option_map_or (range_at none x) o true && (option_map_or (length_at x) o true && (option_map_or (binding_at s none x) o true && true)))))
          ≡ option_map_or (facets_hold s x) o true
      by_case None = refl
      by_case (Some e) = regroup (fixed_at x e) (pattern_at x e) (range_at none x e) (length_at x e) (binding_at s none x e)

  -- the facets, and then what else there is
  module _ (n : NodeRef) (rest others : List Ask) where
    pub facets_first : pass_all s here x (facet_asks n ++ (rest ++ others))
        ≡ (option_map_or (facets_hold s x) (element_at s n) true && (pass_all s here x rest && pass_all s here x others))
    facets_first =
        joined (facet_asks n) (rest ++ others)
        ∙ (λ i. facet_parts n i && joined rest others i)

  pub root_parts : (r : NodeRef) → pass_all s here x (root_asks s x r)
      ≡ (covers s (type_at s r) (type_of x) && (option_map_or (facets_hold s x) (element_at s r) true
      && (pass_all s here x (constraint_asks s r) && pass_all s here x (kids_asks s x r))))
  root_parts r = ap (λ b. covers s (type_at s r) (type_of x) && b) (facets_first r (constraint_asks s r) (kids_asks s x r))

  -- the profiles that types name are asked for, and needn't hold
  profiles_pass : (rs : List NodeRef) → pass_all s here x (map profile rs) ≡ true
  profiles_pass [] = refl
  profiles_pass (r ∷ rs) = profiles_pass rs

  pub inner_parts : (n : NodeRef) → pass_all s here x (inner_asks s x n)
      ≡ (types_hold s none (conforms s (constant false) here x) x n && (option_map_or (facets_hold s x) (element_at s n) true
      && (pass_all s here x (constraint_asks s n) && (pass_all s here x (own_root (type_root s (type_of x))) && pass_all s here x (kids_asks s x n)))))
  inner_parts n =
      let own = own_root (type_root s (type_of x)) in
      let named = profile_asks s x n in
      let kids = kids_asks s x n in
      let F = option_map_or (facets_hold s x) (element_at s n) true in
      let C = pass_all s here x (constraint_asks s n) in
      let T = types_hold s none (conforms s (constant false) here x) x n in
      let last : pass_all s here x (own ++ (named ++ kids)) ≡ (pass_all s here x own && pass_all s here x kids) =
      joined own (named ++ kids)
      ∙ ap (λ b. pass_all s here x own && b) (joined named kids ∙ ap (λ b. b && pass_all s here x kids) (profiles_pass (flat_map (entry_roots s x) (node_types s n)))) in
      ap (λ b. T && b) (facets_first n (constraint_asks s n) (own ++ (named ++ kids)) ∙ ap (λ b. F && (C && b)) last)

  -- the same, the rest last
  pub inner_parts_last : (n : NodeRef) → pass_all s here x (inner_asks s x n)
      ≡ (types_hold s none (conforms s (constant false) here x) x n && (pass_all s here x (own_root (type_root s (type_of x))) && rest_holds s here x n))
  inner_parts_last n =
      inner_parts n
      ∙ ap (λ b. types_hold s none (conforms s (constant false) here x) x n && b)
      (turned (option_map_or (facets_hold s x) (element_at s n) true) (pass_all s here x (constraint_asks s n)) (pass_all s here x (own_root (type_root s (type_of x)))) (pass_all s here x (kids_asks s x n)))
    where
      turned : (f c r k : Bool) → (f && (c && (r && k))) ≡ (r && (f && (c && k)))
      turned true true r k = refl
      turned true false true k = refl
      turned true false false k = refl
      turned false c true k = refl
      turned false c false k = refl

  -- ---- a slot without slices

  regrouped : (a b c : Bool) → (a && (b && c)) ≡ ((a && b) && c)
  regrouped true b c = refl
  regrouped false b c = refl

  unsliced : (name : Text) (places : List ℕ) (n : NodeRef) → IsTrue (is_empty (slices s n)) → sliced_asks s x name places n ≡ []
  unsliced name places n is = ap (λ b. cond b [] (map (apart_ask n) places ++ (flat_map (slice_asks s x name places n) (slices s n) ++ (cond (is_closed s n) (map (in_slice_ask n) places) [] ++ sequence_asks s x n places)))) is

  pub slot_parts : (h : NodeRef) (slot : Slot) → IsTrue (is_empty (slices s (entry_of h slot))) → pass_all s here x (slot_asks s x h slot)
      ≡ ((at_element s (λ e. are_enough e (count_of slot.name x)) (entry_of h slot) && at_element s (λ e. are_within e (count_of slot.name x)) (entry_of h slot))
      && pass_all s here x (map (child_ask (entry_of h slot)) (places_of slot.name x)))
  slot_parts h slot is =
      let n = entry_of h slot in
      let A = at_element s (λ e. are_enough e (count_of slot.name x)) n in
      let B = at_element s (λ e. are_within e (count_of slot.name x)) n in
      let kids = map (child_ask n) (places_of slot.name x) in
      ap (λ b. A && (B && b))
      (joined kids (sliced_asks s x slot.name (places_of slot.name x) n)
      ∙ ap (λ asks. pass_all s here x kids && pass_all s here x asks) (unsliced slot.name (places_of slot.name x) n is)
      ∙ one (pass_all s here x kids))
      ∙ regrouped A B (pass_all s here x kids)

  pub too_few_or_many : (h : NodeRef) (slot : Slot)
      → (at_element s (λ e. are_enough e (count_of slot.name x)) (entry_of h slot) && at_element s (λ e. are_within e (count_of slot.name x)) (entry_of h slot)) ≡ false
      → false ≡ pass_all s here x (slot_asks s x h slot)
  too_few_or_many h slot is =
      let n = entry_of h slot in
      let rest = pass_all s here x (map (child_ask n) (places_of slot.name x) ++ sliced_asks s x slot.name (places_of slot.name x) n) in
      sym (regrouped (at_element s (λ e. are_enough e (count_of slot.name x)) n) (at_element s (λ e. are_within e (count_of slot.name x)) n) rest ∙ ap (λ b. b && rest) is)

  -- ---- a slot, and its slices

  pub slot_split : (h : NodeRef) (slot : Slot) → pass_all s here x (slot_asks s x h slot)
      ≡ ((at_element s (λ e. are_enough e (count_of slot.name x)) (entry_of h slot) && at_element s (λ e. are_within e (count_of slot.name x)) (entry_of h slot))
      && (pass_all s here x (map (child_ask (entry_of h slot)) (places_of slot.name x)) && pass_all s here x (sliced_asks s x slot.name (places_of slot.name x) (entry_of h slot))))
  slot_split h slot =
      let n = entry_of h slot in
      let A = at_element s (λ e. are_enough e (count_of slot.name x)) n in
      let B = at_element s (λ e. are_within e (count_of slot.name x)) n in
      let kids = map (child_ask n) (places_of slot.name x) in
      let sliced = sliced_asks s x slot.name (places_of slot.name x) n in
      ap (λ b. A && (B && b)) (joined kids sliced) ∙ regrouped A B (pass_all s here x kids && pass_all s here x sliced)

  pub none_sliced : (name : Text) (n : NodeRef) → IsTrue (is_empty (slices s n)) → true ≡ pass_all s here x (sliced_asks s x name (places_of name x) n)
  none_sliced name n is = ap (pass_all s here x) (sym (unsliced name (places_of name x) n is))

  apart_pass : (n : NodeRef) (places : List ℕ) → pass_all s here x (map (apart_ask n) places) ≡ list_all (at_kid true (is_apart s n) x) places
  apart_pass n [] = refl
  apart_pass n (i ∷ is) = ap (λ b. at_kid true (is_apart s n) x i && b) (apart_pass n is)

  in_slices_pass : (n : NodeRef) (places : List ℕ) → pass_all s here x (map (in_slice_ask n) places) ≡ list_all (at_kid true (is_sliced s n) x) places
  in_slices_pass n [] = refl
  in_slices_pass n (i ∷ is) = ap (λ b. at_kid true (is_sliced s n) x i && b) (in_slices_pass n is)

  closed_pass : (n : NodeRef) (places : List ℕ) (b : Bool) → pass_all s here x (cond b (map (in_slice_ask n) places) []) ≡ cond b (list_all (at_kid true (is_sliced s n) x) places) true
  closed_pass n places true = in_slices_pass n places
  closed_pass n places false = refl

  -- how the children stand is asked where the slicing says so
  no_sequence : (n : NodeRef) (places : List ℕ) → (is_ordered s n || is_open_at_end s n) ≡ false → sequence_asks s x n places ≡ []
  no_sequence n places none = by_case (is_ordered s n) (is_open_at_end s n) none
    where
      by_case : (a b : Bool) → (a || b) ≡ false → (cond a (order_asks s x n [] places) [] ++ cond b (map (rest_ask n) (behind_rest s x n places)) []) ≡ []
      by_case true b none = absurd (true≢false none)
      by_case false true none = absurd (true≢false none)
      by_case false false none = refl

  pub sliced_split : (name : Text) (n : NodeRef) → is_empty (slices s n) ≡ false → (is_ordered s n || is_open_at_end s n) ≡ false → pass_all s here x (sliced_asks s x name (places_of name x) n)
      ≡ (is_rightly_sliced s n name x && pass_all s here x (flat_map (slice_asks s x name (places_of name x) n) (slices s n)))
  sliced_split name n is unordered =
      let places = places_of name x in
      let apart = map (apart_ask n) places in
      let each = flat_map (slice_asks s x name places n) (slices s n) in
      let closed = cond (is_closed s n) (map (in_slice_ask n) places) [] in
      ap (λ b. pass_all s here x (cond b [] (apart ++ (each ++ (closed ++ sequence_asks s x n places))))) is
      ∙ ap (λ asks. pass_all s here x (apart ++ (each ++ asks))) (ap (λ asks. closed ++ asks) (no_sequence n places unordered) ∙ append-nil closed)
      ∙ joined apart (each ++ closed)
      ∙ (λ i. apart_pass n places i && joined each closed i)
      ∙ (λ i. list_all (at_kid true (is_apart s n) x) places && (pass_all s here x each && closed_pass n places (is_closed s n) i))
      ∙ turned (list_all (at_kid true (is_apart s n) x) places) (pass_all s here x each) (cond (is_closed s n) (list_all (at_kid true (is_sliced s n) x) places) true)
    where
      turned : (a e c : Bool) → (a && (e && c)) ≡ ((a && c) && e)
      turned true true true = refl
      turned true true false = refl
      turned true false true = refl
      turned true false false = refl
      turned false e c = refl

  pub slice_split : (name : Text) (n : NodeRef) (slice : Slot) → pass_all s here x (slice_asks s x name (places_of name x) n slice)
      ≡ ((at_element s (λ e. are_enough e (count_in s (entry_of n slice) name x)) (entry_of n slice) && at_element s (λ e. are_within e (count_in s (entry_of n slice) name x)) (entry_of n slice))
      && pass_all s here x (map (child_ask (entry_of n slice)) (members s x (entry_of n slice) (places_of name x))))
  slice_split name n slice =
      let m = entry_of n slice in
      let A = at_element s (λ e. are_enough e (count_in s m name x)) m in
      let B = at_element s (λ e. are_within e (count_in s m name x)) m in
      let each = map (child_ask m) (members s x m (places_of name x)) in
      joined each (own (too_few_in name) m ∷ own (too_many_in name) m ∷ []) ∙ turned (pass_all s here x each) A B
    where
      turned : (k a b : Bool) → (k && (a && (b && true))) ≡ ((a && b) && k)
      turned true true true = refl
      turned true true false = refl
      turned true false b = refl
      turned false true true = refl
      turned false true false = refl
      turned false false b = refl

-- ---- what is asked of an item

module _ (s : SchemaValue) (roots : IsOfType s) (others : IsOfCanonical s) (here : Around) (x : Item) where
  pub root_told : (r : NodeRef) → IsTrue (is_root_node s r) → conforms s (constant false) here x r ≡ pass_all s here x (root_asks s x r)
  root_told r is = conforms_to s roots others (constant false) here x r ∙ ap (λ b. pass_all s here x (cond b (root_asks s x r) (inner_asks s x r))) is

  pub inner_told : (n : NodeRef) → is_root_node s n ≡ false → conforms s (constant false) here x n ≡ pass_all s here x (inner_asks s x n)
  inner_told n is = conforms_to s roots others (constant false) here x n ∙ ap (λ b. pass_all s here x (cond b (root_asks s x n) (inner_asks s x n))) is

  pub own_root_told : (o : Option NodeRef) (r : NodeRef) → o ≡ Some r → conforms s (constant false) here x r ≡ pass_all s here x (own_root o)
  own_root_told o r is = sym (one (conforms s (constant false) here x r)) ∙ ap (λ o. pass_all s here x (own_root o)) (sym is)
