-- What belongs to slices that share no item is no more than there is.
use Rattle.std.proofs.Common.{◌≡◌, ◌≤◌, ℕ, Bool, true, false, not, List, [], ◌∷◌, ◌++◌, map, length, Option, Some, None, refl, sym, ap, subst, ◌∙◌, ◌&&◌, ◌||◌, IsTrue, arith}
use Rattle.std.specs.Prelude.{if◌then◌else◌}
use Rattle.std.specs.List.{list_all, filter, flat_map, sum_by, count_by, AllByRecursion, Contains}
use Rattle.std.specs.Option.{option_map_or}
use Rattle.std.specs.Str.{bytes_eq}
use Rattle.std.proofs.lemmas.Bool.{and_parts, leb-true, le-leb, false≢true}
use Rattle.fhir_json.specs.Tree.{Text}
use Rattle.fhir_json.specs.Bytes.{is_empty}
use Rattle.fhir_elements.specs.declared.max.Max.{Max}
use Rattle.fhir_elements.specs.declared.max.Max.TheVariants.{Unbounded, UpTo}
use Rattle.fhir_elements.specs.Max.{is_within}
use Rattle.fhir_elements.specs.Element.{Element}
use Rattle.fhir_nodes.specs.declared.node.NodeRef.{NodeRef}
use Rattle.fhir_nodes.specs.Slots.{Slot}
use Rattle.fhir_schema.specs.Schemas.{SchemaValue, element_at, holder, slots, slices, is_closed, entry_of, criteria}
use Rattle.fhir_instance.specs.Items.{Item, kids_of}
use Rattle.fhir_facets.specs.Unread.{Meaning}
use Rattle.fhir_facets.specs.Cardinality.{least_of, are_enough, are_within}
use Rattle.fhir_slicing.specs.Belonging.{belongs, is_in, is_apart}
use Rattle.fhir_conformance.specs.Asks.{too_few, too_many, too_few_in, too_many_in}
use Rattle.fhir_conformance.specs.Asks.{Ask, own, places_of, child_ask, apart_ask, in_slice_ask, sequence_asks, slice_asks, sliced_asks}
use Rattle.fhir_conformance.specs.Positions.{kid_at, at_kid, members}
use Rattle.fhir_conformance.specs.Conformance.{ask_holds, item_holds}
use Rattle.fhir_contradictions.specs.Contradictions.{names_differ, slice_least, asks_too_many}
use Rattle.fhir_contradictions.proofs.Passing.{all_front, all_back}
use Rattle.fhir_contradictions.proofs.Counting.{sum_none, sum_below, parts_within, one_at_most}
use Rattle.fhir_contradictions.proofs.Obeying.{slot_holds}

-- what isn't there is in none
none_counted : (ss : List Slot) → count_by (λ (slice : Slot). false) ss ≤ 1
none_counted ss = omega (arith, sum_none ss)

-- what is enough is no less than the least
least_within : (o : Option Element) (n : ℕ) → IsTrue (option_map_or (λ e. are_enough e n) o true) → option_map_or least_of o 0 ≤ n
least_within None n enough = omega arith
least_within (Some e) n enough = leb-true (least_of e) n enough

-- fewer are within the bound too
fewer_within : (o : Option Max) (k n : ℕ) → k ≤ n → IsTrue (option_map_or (is_within n) o true) → IsTrue (option_map_or (is_within k) o true)
fewer_within None k n fewer within = refl
fewer_within (Some Unbounded) k n fewer within = refl
fewer_within (Some (UpTo most)) k n fewer within = le-leb k most (omega (arith, leb-true n most within))

-- where so many are within the bound, no fewer are too many
too_many_refused : (o : Option Element) (k n : ℕ) → k ≤ n → IsTrue (option_map_or (λ e. are_within e n) o true) → IsTrue (option_map_or (λ e. not (are_within e k)) o false) → ⊥
too_many_refused None k n fewer within refused = false≢true refused
too_many_refused (Some e) k n fewer within refused =
    false≢true (sym (ap (λ b. not b) (fewer_within e.max k n fewer within)) ∙ refused)

module _ (s : SchemaValue) (m : Meaning) (resource x : Item) (kids : List (NodeRef → Bool)) (n : NodeRef) where
  abbrev is_member : Slot → ℕ → Bool
  is_member slice i = at_kid false (belongs s (criteria s (entry_of n slice))) x i

  -- a child is in one slice at most
  in_one : (ss : List Slot) → ss ≡ slices s n → IsTrue (names_differ ss) → (i : ℕ) → IsTrue (at_kid true (is_apart s n) x i) → count_by (λ (slice : Slot). is_member slice i) ss ≤ 1
  in_one ss are named i = by_case (kid_at (kids_of x) i)
    where
      by_case : (o : Option Item) → IsTrue (option_map_or (is_apart s n) o true)
          → count_by (λ (slice : Slot). option_map_or (belongs s (criteria s (entry_of n slice))) o false) ss ≤ 1
      by_case None none = none_counted ss
      by_case (Some y) alone =
          one_at_most (is_in s n y) ss named (subst (λ all. IsTrue (list_all (λ one. list_all (λ other. bytes_eq one.name other.name || not (is_in s n y one && is_in s n y other)) all) all)) (sym are) alone)

  module _ (roots : NodeRef → Bool) (name : Text) where
    abbrev Of : Ask → Bool
    Of = ask_holds s m resource x kids roots

    -- each child is in one slice at most
    each_apart : (ss : List Slot) → ss ≡ slices s n → IsTrue (names_differ ss) → (places : List ℕ) → IsTrue (list_all Of (map (apart_ask n) places))
        → AllByRecursion (λ (i : ℕ). count_by (λ (slice : Slot). is_member slice i) ss ≤ 1) places
    each_apart ss are named [] all = tt
    each_apart ss are named (i ∷ is) all =
        let parts = and_parts (at_kid true (is_apart s n) x i) (list_all Of (map (apart_ask n) is)) all in
        (in_one ss are named i parts.0, each_apart ss are named is parts.1)

    -- each slice has as many as it asks for
    each_enough : (ss : List Slot) → IsTrue (list_all Of (flat_map (slice_asks s x name (places_of name x) n) ss))
        → AllByRecursion (λ (slice : Slot). slice_least s n slice ≤ length (filter (is_member slice) (places_of name x))) ss
    each_enough [] all = tt
    each_enough (slice ∷ ss) all =
        let k = entry_of n slice in
        let places = places_of name x in
        let mine = all_front Of (slice_asks s x name places n slice) (flat_map (slice_asks s x name places n) ss) all in
        let rules = all_back Of (map (child_ask k) (members s x k places)) (own (too_few_in name) k ∷ own (too_many_in name) k ∷ []) mine in
        let few = and_parts (Of (own (too_few_in name) k)) (list_all Of (own (too_many_in name) k ∷ [])) rules in (
          least_within (element_at s k) (length (members s x k places)) few.0,
          each_enough ss (all_back Of (slice_asks s x name places n slice) (flat_map (slice_asks s x name places n) ss) all),
        )

    -- the slices ask for no more than there is
    pub leasts_within : IsTrue (names_differ (slices s n)) → IsTrue (list_all Of (sliced_asks s x name (places_of name x) n))
        → sum_by (slice_least s n) (slices s n) ≤ length (places_of name x)
    leasts_within named = by_case (slices s n) refl named
      where
        places : List ℕ
        places = places_of name x

        by_case : (ss : List Slot) → ss ≡ slices s n → IsTrue (names_differ ss)
            → IsTrue (list_all Of
            (if is_empty ss then []
            else map (apart_ask n) places
            ++ (flat_map (slice_asks s x name places n) ss
            ++ ((if is_closed s n then map (in_slice_ask n) places else []) ++ sequence_asks s x n places))))
            → sum_by (slice_least s n) ss ≤ length places
        by_case [] are named all = omega arith
        by_case (slice ∷ ss) are named all =
            let closed = (if is_closed s n then map (in_slice_ask n) places else []) ++ sequence_asks s x n places in
            let each = flat_map (slice_asks s x name places n) (slice ∷ ss) in
            let aparts = all_front Of (map (apart_ask n) places) (each ++ closed) all in
            let of_slices = all_front Of each closed (all_back Of (map (apart_ask n) places) (each ++ closed) all) in
            let within = parts_within is_member (slice ∷ ss) places (each_apart (slice ∷ ss) are named places aparts) in
            let below = sum_below (slice_least s n) (λ (slice : Slot). length (filter (is_member slice) places)) (slice ∷ ss) (each_enough (slice ∷ ss) of_slices) in
            omega arith

module _ (s : SchemaValue) (m : Meaning) (resource x : Item) (kids : List (NodeRef → Bool)) where
  -- no item conforms to a node of whose children an element's slices ask for too many
  pub not_too_many : (n h : NodeRef) (slot : Slot) → holder s n ≡ Some h → Contains (slots s h) slot → IsTrue (names_differ (slices s (entry_of h slot)))
      → IsTrue (asks_too_many s (entry_of h slot)) → IsTrue (item_holds s m resource x kids n) → ⊥
  not_too_many n h slot is among named many holds =
      let k = entry_of h slot in
      let places = places_of slot.name x in
      let all = slot_holds s m resource x kids n h slot is among holds in
      let of = ask_holds s m resource x kids all.0 in
      let few = and_parts (of (own (too_few slot.name) k)) (list_all of (own (too_many slot.name) k ∷ map (child_ask k) places ++ sliced_asks s x slot.name places k)) all.1 in
      let most = and_parts (of (own (too_many slot.name) k)) (list_all of (map (child_ask k) places ++ sliced_asks s x slot.name places k)) few.1 in
      let sliced = all_back of (map (child_ask k) places) (sliced_asks s x slot.name places k) most.1 in
      too_many_refused (element_at s k) (sum_by (slice_least s k) (slices s k)) (length places)
      (leasts_within s m resource x kids k all.0 slot.name named sliced) most.0 many
