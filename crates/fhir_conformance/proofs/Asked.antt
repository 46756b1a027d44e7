-- What kinds of things a node asks.
use Rattle.std.proofs.Common.{◌≡◌, ℕ, Bool, true, false, List, [], ◌∷◌, ◌++◌, length, map, filter, not, Option, Some, None, refl, ◌⊎◌, inl, inr}
use Rattle.std.specs.Prelude.{if◌then◌else◌}
use Rattle.std.specs.List.{AllByRecursion, range_with_len, flat_map, last_or}
use Rattle.std.specs.Option.{option_map_or}
use Rattle.fhir_json.specs.Tree.{Text}
use Rattle.fhir_json.specs.Bytes.{is_empty}
use Rattle.fhir_nodes.specs.declared.node.NodeRef.{NodeRef}
use Rattle.fhir_nodes.specs.Slots.{Slot}
use Rattle.fhir_elements.specs.TypeEntry.{TypeEntry}
use Rattle.fhir_schema.specs.Schemas.{SchemaValue, element_at, target, holder, slots, slices, is_closed, entry_of, type_root, loaded, types as node_types}
use Rattle.fhir_schema.specs.Covers.{covers}
use Rattle.fhir_instance.specs.Items.{Item, type_of}
use Rattle.fhir_facets.specs.Order.{is_ordered, is_open_at_end, may_follow}
use Rattle.fhir_conformance.specs.Positions.{members, slice_place}
use Rattle.fhir_conformance.specs.Asks.{ElementRuleName, root_type, fixed, pattern, range, length_limit, binding, too_few, too_many, too_few_in, too_many_in, apart, in_a_slice, in_order, in_the_rest, constraint}
use Rattle.fhir_conformance.specs.Asks.{Ask, own, types, profile, root, child, places_of, constraint_ask, own_constraint_asks, constraint_asks, child_ask, apart_ask, in_slice_ask, order_ask, order_asks, rest_ask, behind_rest, sequence_asks, slice_asks, sliced_asks, named_asks, slot_asks, roots_named, entry_roots, profile_asks, own_root, slots_ask, kids_asks, root_asks, inner_asks}
use Rattle.fhir_conformance.proofs.Lists.{all_of_each, all_join, all_gathered, all_mapped}

-- the rules that an element has of the children of a name
abbrev pub IsOfKids : ElementRuleName → Type 0
IsOfKids root_type = ⊥
IsOfKids fixed = ⊥
IsOfKids pattern = ⊥
IsOfKids range = ⊥
IsOfKids length_limit = ⊥
IsOfKids binding = ⊥
IsOfKids (too_few name) = Unit {0}
IsOfKids (too_many name) = Unit {0}
IsOfKids (too_few_in name) = Unit {0}
IsOfKids (too_many_in name) = Unit {0}
IsOfKids (apart position) = Unit {0}
IsOfKids (in_a_slice position) = Unit {0}
IsOfKids (in_order earlier position) = Unit {0}
IsOfKids (in_the_rest position) = Unit {0}
IsOfKids (constraint position) = ⊥

-- of children, a node asks rules of their number and of its slices, and what each conforms to
module _ (P : Ask → Type 0) (of_rule : (rule : ElementRuleName) (m : NodeRef) → IsOfKids rule → P (own rule m))
    (of_child : (i : ℕ) (m : NodeRef) → P (child i m)) where
  children : (m : NodeRef) (places : List ℕ) → AllByRecursion P (map (child_ask m) places)
  children m places = all_mapped P (child_ask m) places (all_of_each (λ i. P (child i m)) (λ i. of_child i m) places)

  of_slice : (s : SchemaValue) (x : Item) (name : Text) (places : List ℕ) (n : NodeRef) (slice : Slot)
      → AllByRecursion P (slice_asks s x name places n slice)
  of_slice s x name places n slice =
      let m = entry_of n slice in
      all_join P (map (child_ask m) (members s x m places)) (own (too_few_in name) m ∷ own (too_many_in name) m ∷ [])
      (children m (members s x m places))
      (of_rule (too_few_in name) m tt, (of_rule (too_many_in name) m tt, tt))

  of_order : (s : SchemaValue) (x : Item) (n : NodeRef) (earlier places : List ℕ) → AllByRecursion P (order_asks s x n earlier places)
  of_order s x n earlier [] = tt
  of_order s x n earlier (i ∷ is) =
      all_join P (order_ask s x n earlier i) (order_asks s x n (earlier ++ i ∷ []) is)
      (of_one (last_or None (filter (λ j. not (may_follow (slice_place s x n j) (slice_place s x n i))) earlier)))
      (of_order s x n (earlier ++ i ∷ []) is)
    where
      of_one : (o : Option ℕ) → AllByRecursion P (option_map_or (λ j. own (in_order j i) n ∷ []) o [])
      of_one None = tt
      of_one (Some j) = (of_rule (in_order j i) n tt, tt)

  of_sequence : (s : SchemaValue) (x : Item) (n : NodeRef) (places : List ℕ) → AllByRecursion P (sequence_asks s x n places)
  of_sequence s x n places =
      all_join P (if is_ordered s n then order_asks s x n [] places else []) (if is_open_at_end s n then map (rest_ask n) (behind_rest s x n places) else [])
      (ordered (is_ordered s n)) (at_end (is_open_at_end s n))
    where
      ordered : (b : Bool) → AllByRecursion P (if b then order_asks s x n [] places else [])
      ordered true = of_order s x n [] places
      ordered false = tt

      at_end : (b : Bool) → AllByRecursion P (if b then map (rest_ask n) (behind_rest s x n places) else [])
      at_end true =
          all_mapped P (rest_ask n) (behind_rest s x n places)
          (all_of_each (λ i. P (own (in_the_rest i) n)) (λ i. of_rule (in_the_rest i) n tt) (behind_rest s x n places))
      at_end false = tt

  of_slices : (s : SchemaValue) (x : Item) (name : Text) (places : List ℕ) (n : NodeRef) → AllByRecursion P (sliced_asks s x name places n)
  of_slices s x name places n = by_case (is_empty (slices s n)) (is_closed s n)
    where
      aparts : AllByRecursion P (map (apart_ask n) places)
      aparts = all_mapped P (apart_ask n) places (all_of_each (λ i. P (own (apart i) n)) (λ i. of_rule (apart i) n tt) places)

      each : AllByRecursion P (flat_map (slice_asks s x name places n) (slices s n))
      each = all_gathered P (slice_asks s x name places n) (slices s n)
          (all_of_each (λ slice. AllByRecursion P (slice_asks s x name places n slice)) (of_slice s x name places n) (slices s n))

      closed : (b : Bool) → AllByRecursion P (if b then map (in_slice_ask n) places else [])
      closed true = all_mapped P (in_slice_ask n) places (all_of_each (λ i. P (own (in_a_slice i) n)) (λ i. of_rule (in_a_slice i) n tt) places)
      closed false = tt

      by_case : (none is_closed : Bool)
          → AllByRecursion P
          (if none then []
          else map (apart_ask n) places
          ++ (flat_map (slice_asks s x name places n) (slices s n)
          ++ ((if is_closed then map (in_slice_ask n) places else []) ++ sequence_asks s x n places)))
      by_case true is_closed = tt
      by_case false is_closed =
          all_join P (map (apart_ask n) places)
          (flat_map (slice_asks s x name places n) (slices s n) ++ ((if is_closed then map (in_slice_ask n) places else []) ++ sequence_asks s x n places)) aparts
          (all_join P (flat_map (slice_asks s x name places n) (slices s n)) ((if is_closed then map (in_slice_ask n) places else []) ++ sequence_asks s x n places) each
          (all_join P (if is_closed then map (in_slice_ask n) places else []) (sequence_asks s x n places) (closed is_closed) (of_sequence s x n places)))

  of_name : (s : SchemaValue) (x : Item) (name : Text) (places : List ℕ) (n : NodeRef) → AllByRecursion P (named_asks s x name places n)
  of_name s x name places n = (
    of_rule (too_few name) n tt,
    (
      of_rule (too_many name) n tt,
      all_join P (map (child_ask n) places) (sliced_asks s x name places n) (children n places) (of_slices s x name places n),
    ),
  )

  of_slot : (s : SchemaValue) (x : Item) (n : NodeRef) (slot : Slot) → AllByRecursion P (slot_asks s x n slot)
  of_slot s x n slot = of_name s x slot.name (places_of slot.name x) (entry_of n slot)

  of_holder : (s : SchemaValue) (x : Item) (n : NodeRef) → AllByRecursion P (slots_ask s x n)
  of_holder s x n = all_gathered P (slot_asks s x n) (slots s n) (all_of_each (λ slot. AllByRecursion P (slot_asks s x n slot)) (of_slot s x n) (slots s n))

  pub of_kids : (s : SchemaValue) (x : Item) (n : NodeRef) → AllByRecursion P (kids_asks s x n)
  of_kids s x n = by_case (holder s n)
    where
      by_case : (o : Option NodeRef) → AllByRecursion P (option_map_or (slots_ask s x) o [])
      by_case None = tt
      by_case (Some h) = of_holder s x h

-- of constraints, a node asks its own, and those of the node that it refers to for its content
module _ (P : Ask → Type 0) (s : SchemaValue) (n : NodeRef) (of_own : (position : ℕ) → P (own (constraint position) n))
    (of_target : (t : NodeRef) (position : ℕ) → target s n ≡ Some t → P (own (constraint position) t)) where
  own_constraints : (m : NodeRef) → ((position : ℕ) → P (own (constraint position) m)) → AllByRecursion P (own_constraint_asks s m)
  own_constraints m of = all_mapped P (constraint_ask m) positions (all_of_each (λ position. P (own (constraint position) m)) of positions)
    where
      positions : List ℕ
      positions = range_with_len 0 (option_map_or (λ e. length e.constraints) (element_at s m) 0)

  pub of_constraints : AllByRecursion P (constraint_asks s n)
  of_constraints =
      all_join P (own_constraint_asks s n) (option_map_or (own_constraint_asks s) (target s n) []) (own_constraints n of_own)
      (by_case (target s n) refl)
    where
      by_case : (o : Option NodeRef) → target s n ≡ o → AllByRecursion P (option_map_or (own_constraint_asks s) o [])
      by_case None is = tt
      by_case (Some t) is = own_constraints t (λ position. of_target t position is)

-- A rule that hangs on what unread rules mean is the node's own, or a constraint of the node that it refers to for its
-- content; a root is that of the item's type, and a profile is one that can be used.
abbrev pub IsOf : SchemaValue → Item → NodeRef → Ask → Type 0
IsOf s x n (own root_type m) = Unit {0}
IsOf s x n (own fixed m) = Unit {0}
IsOf s x n (own pattern m) = Unit {0}
IsOf s x n (own range m) = m ≡ n
IsOf s x n (own length_limit m) = Unit {0}
IsOf s x n (own binding m) = m ≡ n
IsOf s x n (own (too_few name) m) = Unit {0}
IsOf s x n (own (too_many name) m) = Unit {0}
IsOf s x n (own (too_few_in name) m) = Unit {0}
IsOf s x n (own (too_many_in name) m) = Unit {0}
IsOf s x n (own (apart position) m) = Unit {0}
IsOf s x n (own (in_a_slice position) m) = Unit {0}
IsOf s x n (own (in_order earlier position) m) = Unit {0}
IsOf s x n (own (in_the_rest position) m) = Unit {0}
IsOf s x n (own (constraint position) m) = (m ≡ n) ⊎ (target s n ≡ Some m)
IsOf s x n (types m) = m ≡ n
IsOf s x n (profile r) = (canonical : Text) × (loaded s canonical ≡ Some r)
IsOf s x n (root r) = type_root s (type_of x) ≡ Some r
IsOf s x n (child i m) = Unit {0}

module _ (s : SchemaValue) (x : Item) (n : NodeRef) where
  kids_rule_is_of : (rule : ElementRuleName) (m : NodeRef) → IsOfKids rule → IsOf s x n (own rule m)
  kids_rule_is_of root_type m is = absurd is
  kids_rule_is_of fixed m is = absurd is
  kids_rule_is_of pattern m is = absurd is
  kids_rule_is_of range m is = absurd is
  kids_rule_is_of length_limit m is = absurd is
  kids_rule_is_of binding m is = absurd is
  kids_rule_is_of (too_few name) m is = tt
  kids_rule_is_of (too_many name) m is = tt
  kids_rule_is_of (too_few_in name) m is = tt
  kids_rule_is_of (too_many_in name) m is = tt
  kids_rule_is_of (apart position) m is = tt
  kids_rule_is_of (in_a_slice position) m is = tt
  kids_rule_is_of (in_order earlier position) m is = tt
  kids_rule_is_of (in_the_rest position) m is = tt
  kids_rule_is_of (constraint position) m is = absurd is

  kids_are_of : AllByRecursion (IsOf s x n) (kids_asks s x n)
  kids_are_of = of_kids (IsOf s x n) kids_rule_is_of (λ i m. tt) s x n

  constraint_asks_are_of : AllByRecursion (IsOf s x n) (constraint_asks s n)
  constraint_asks_are_of = of_constraints (IsOf s x n) s n (λ position. inl refl) (λ t position is. inr is)

  after_constraints : (asks : List Ask) → AllByRecursion (IsOf s x n) asks → AllByRecursion (IsOf s x n) (constraint_asks s n ++ asks)
  after_constraints asks are_of = all_join (IsOf s x n) (constraint_asks s n) asks constraint_asks_are_of are_of

  pub root_asks_are_of : AllByRecursion (IsOf s x n) (root_asks s x n)
  root_asks_are_of = (tt, (tt, (tt, (refl, (tt, (refl, after_constraints (kids_asks s x n) kids_are_of))))))

  own_root_is_of : (o : Option NodeRef) → type_root s (type_of x) ≡ o → AllByRecursion (IsOf s x n) (own_root o)
  own_root_is_of None is = tt
  own_root_is_of (Some r) is = (is, tt)

  abbrev IsNamed : NodeRef → Type 0
  IsNamed r = (canonical : Text) × (loaded s canonical ≡ Some r)

  one_is_named : (canonical : Text) → AllByRecursion IsNamed (option_map_or (λ r. r ∷ []) (loaded s canonical) [])
  one_is_named canonical = by_case (loaded s canonical) refl
    where
      by_case : (o : Option NodeRef) → loaded s canonical ≡ o → AllByRecursion IsNamed (option_map_or (λ r. r ∷ []) o [])
      by_case None is = tt
      by_case (Some r) is = ((canonical, is), tt)

  roots_are_named : (e : TypeEntry) → AllByRecursion IsNamed (entry_roots s x e)
  roots_are_named e = by_case (covers s e.code (type_of x))
    where
      by_case : (b : Bool) → AllByRecursion IsNamed (if b then roots_named s e.profiles else [])
      by_case true =
          all_gathered IsNamed (λ p. option_map_or (λ r. r ∷ []) (loaded s p) []) e.profiles
          (all_of_each (λ p. AllByRecursion IsNamed (option_map_or (λ r. r ∷ []) (loaded s p) [])) one_is_named e.profiles)
      by_case false = tt

  profiles_are_of : AllByRecursion (IsOf s x n) (profile_asks s x n)
  profiles_are_of =
      all_mapped (IsOf s x n) profile (flat_map (entry_roots s x) (node_types s n))
      (all_gathered IsNamed (entry_roots s x) (node_types s n)
      (all_of_each (λ e. AllByRecursion IsNamed (entry_roots s x e)) roots_are_named (node_types s n)))

  pub inner_asks_are_of : AllByRecursion (IsOf s x n) (inner_asks s x n)
  inner_asks_are_of = (
    refl,
    (
      tt,
      (
        tt,
        (
          refl,
          (
            tt,
            (
              refl,
              after_constraints (own_root (type_root s (type_of x)) ++ (profile_asks s x n ++ kids_asks s x n))
                  (all_join (IsOf s x n) (own_root (type_root s (type_of x))) (profile_asks s x n ++ kids_asks s x n) (own_root_is_of (type_root s (type_of x)) refl)
                  (all_join (IsOf s x n) (profile_asks s x n) (kids_asks s x n) profiles_are_of kids_are_of)),
            ),
          ),
        ),
      ),
    ),
  )

-- no ask of a root is a root, a profile or of types
abbrev pub IsNoRoot : Ask → Type 0
IsNoRoot (own rule m) = Unit {0}
IsNoRoot (types m) = ⊥
IsNoRoot (profile r) = ⊥
IsNoRoot (root r) = ⊥
IsNoRoot (child i m) = Unit {0}

pub root_asks_no_root : (s : SchemaValue) (x : Item) (r : NodeRef) → AllByRecursion IsNoRoot (root_asks s x r)
root_asks_no_root s x r = (
  tt,
  (
    tt,
    (
      tt,
      (
        tt,
        (
          tt,
          (
            tt,
            all_join IsNoRoot (constraint_asks s r) (kids_asks s x r)
                (of_constraints IsNoRoot s r (λ position. tt) (λ t position is. tt))
                (of_kids IsNoRoot (λ rule m is. tt) (λ i m. tt) s x r),
          ),
        ),
      ),
    ),
  ),
)
