-- Where an order is as narrow as another, items that stand in the first stand in the second.
use Rattle.std.proofs.Common.{◌≡◌, ℕ, ◌≤◌, Bool, true, false, not, ◌&&◌, ◌||◌, List, [], ◌∷◌, map, Option, None, Some, is_some, is_none, IsTrue, refl, sym, ap, ◌∙◌, ◌⊎◌, inl, inr, subst, cond, arith}
use Rattle.std.specs.Prelude.{nat_le}
use Rattle.std.specs.Option.{option_map, option_map_or}
use Rattle.std.specs.List.{list_all, list_any, find}
use Rattle.std.specs.Str.{bytes_eq}
use Rattle.std.proofs.lemmas.Bool.{and_parts, and_from, or_cases, or_left, or_right, not-true, leb-true, false≢true, true≢false}
use Rattle.std.proofs.lemmas.Option.{none-some, same_Some}
use Rattle.std.proofs.lemmas.Slice.Eq.{bytes_eq-Decides}
use Rattle.fhir_json.specs.Tree.{Text}
use Rattle.fhir_json.specs.Bytes.{is_empty}
use Rattle.fhir_nodes.specs.declared.node.NodeRef.{NodeRef}
use Rattle.fhir_nodes.specs.Slots.{Slot}
use Rattle.fhir_schema.specs.Schemas.{SchemaValue, slices, slice_named, is_closed}
use Rattle.fhir_facets.specs.Order.{each_pair, may_follow, are_in_order, is_rest_last, none_behind, is_ordered, is_open_at_end, place_named, order_holds, is_live, base_place, ordered_narrower, is_new, is_kept, new_come_last, new_are_rest, has_named, end_narrower, order_narrower, may_be_in}
use Rattle.fhir_facets.proofs.Ordered.{IsSliceIn, pair_holds, slices_ascend}

-- ---- pairs of a list

pub all_pairs : {A : Type 0} (r : A → A → Bool) → ((x y : A) → IsTrue (r x y)) → (xs : List A) → IsTrue (each_pair r xs)
all_pairs r f [] = refl
all_pairs {A} r f (x ∷ xs) = and_from (list_all (r x) xs) (each_pair r xs) (each xs) (all_pairs r f xs)
  where
    each : (ys : List A) → IsTrue (list_all (r x) ys)
    each [] = refl
    each (y ∷ ys) = and_from (r x y) (list_all (r x) ys) (f x y) (each ys)

-- what two tests of pairs give, of elements that pass a test
pub pairs_step : {A : Type 0} (p : A → Bool) (r q t : A → A → Bool) → ((x y : A) → IsTrue (p x) → IsTrue (p y) → IsTrue (r x y) → IsTrue (q x y) → IsTrue (t x y))
    → (xs : List A) → IsTrue (list_all p xs) → IsTrue (each_pair r xs) → IsTrue (each_pair q xs) → IsTrue (each_pair t xs)
pairs_step p r q t f [] each one other = refl
pairs_step {A} p r q t f (x ∷ xs) each one other =
    let parts = and_parts (p x) (list_all p xs) each in
    let ones = and_parts (list_all (r x) xs) (each_pair r xs) one in
    let others = and_parts (list_all (q x) xs) (each_pair q xs) other in
    and_from (list_all (t x) xs) (each_pair t xs) (here parts.0 xs parts.1 ones.0 others.0) (pairs_step p r q t f xs parts.1 ones.1 others.1)
  where
    here : IsTrue (p x) → (ys : List A) → IsTrue (list_all p ys) → IsTrue (list_all (r x) ys) → IsTrue (list_all (q x) ys) → IsTrue (list_all (t x) ys)
    here first [] each one other = refl
    here first (y ∷ ys) each one other =
        let parts = and_parts (p y) (list_all p ys) each in
        let ones = and_parts (r x y) (list_all (r x) ys) one in
        let others = and_parts (q x y) (list_all (q x) ys) other in
        and_from (t x y) (list_all (t x) ys) (f x y first parts.0 ones.0 others.0) (here first ys parts.1 ones.1 others.1)

pub mapped_pairs : {A B : Type 0} (r : B → B → Bool) (f : A → B) (xs : List A) → each_pair r (map f xs) ≡ each_pair (λ x y. r (f x) (f y)) xs
mapped_pairs r f [] = refl
mapped_pairs {A} r f (x ∷ xs) = (λ i. here xs i && mapped_pairs r f xs i)
  where
    here : (ys : List A) → list_all (r (f x)) (map f ys) ≡ list_all (λ y. r (f x) (f y)) ys
    here [] = refl
    here (y ∷ ys) = ap (λ b. r (f x) (f y) && b) (here ys)

pub pairs_unless : {A : Type 0} (b : Bool) (r : A → A → Bool) (xs : List A) → IsTrue (not b || each_pair r xs) → IsTrue (each_pair (λ x y. not b || r x y) xs)
pairs_unless true r xs h = h
pairs_unless false r xs h = all_pairs (λ x y. true) (λ x y. refl) xs

-- ---- places

pub self_follows : (o : Option ℕ) → IsTrue (may_follow o o)
self_follows None = refl
self_follows (Some k) = grind arith

pub follows_none : (o : Option ℕ) → IsTrue (may_follow o None)
follows_none None = refl
follows_none (Some k) = refl

abbrev place_of : Option Slot → Option ℕ
place_of o = option_map (λ slice. slice.entry) o

none_follows : (o : Option Slot) (p : Option ℕ) → IsTrue (is_none o) → IsTrue (may_follow (place_of o) p)
none_follows None p none = refl
none_follows (Some a) p none = absurd (false≢true none)

follows_no_slice : (o : Option ℕ) (p : Option Slot) → IsTrue (is_none p) → IsTrue (may_follow o (place_of p))
follows_no_slice o None none = follows_none o
follows_no_slice o (Some a) none = absurd (false≢true none)

-- ---- slices by their names

named_there : (name : Text) (ss : List Slot) (a : Slot) → find (λ slice. bytes_eq name slice.name) ss ≡ Some a → IsSliceIn a ss × (name ≡ a.name)
named_there name [] a e = absurd (none-some a e)
named_there name (b ∷ ss) a e = by_case (bytes_eq name b.name) refl e (named_there name ss a)
  where
    by_case : (t : Bool) → bytes_eq name b.name ≡ t → cond t (Some b) (find (λ slice. bytes_eq name slice.name) ss) ≡ Some a
        → (find (λ slice. bytes_eq name slice.name) ss ≡ Some a → IsSliceIn a ss × (name ≡ a.name)) → IsSliceIn a (b ∷ ss) × (name ≡ a.name)
    by_case true is e behind =
        let same = same_Some b a e in
        (inl (sym same), (bytes_eq-Decides name b.name).0 is ∙ ap (λ (z : Slot). z.name) same)
    by_case false is e behind = let found = behind e in (inr found.0, found.1)

none_named : (name : Text) (ss : List Slot) → IsTrue (is_empty ss) → find (λ (slice : Slot). bytes_eq name slice.name) ss ≡ None
none_named name [] none = refl
none_named name (a ∷ ss) none = absurd (false≢true none)

some_new : (p : Slot → Bool) (ss : List Slot) (a : Slot) → IsSliceIn a ss → IsTrue (p a) → IsTrue (not (list_any p ss)) → ⊥
some_new p [] a there is none = there
some_new p (b ∷ ss) a there is none = by_case (p b) refl none (some_new p ss a)
  where
    by_case : (t : Bool) → p b ≡ t → IsTrue (not (t || list_any p ss)) → (IsSliceIn a ss → IsTrue (p a) → IsTrue (not (list_any p ss)) → ⊥) → ⊥
    by_case true at none further = false≢true none
    by_case false at none further =
        elim there [
          | inl here ↦ false≢true (sym at ∙ sym (ap p here) ∙ is)
          | inr behind ↦ further behind is none
        ]

module _ (s : SchemaValue) (n m : NodeRef) where
  abbrev own_place : Text → Option ℕ
  own_place name = place_named s n name

  abbrev place_in_base : Text → Option ℕ
  place_in_base name = place_named s m name

  abbrev asks_in_own : Option Slot → Text → Bool
  asks_in_own o name = option_map_or (is_live s n) o (not (is_closed s n) && is_none (slice_named s m name))

  -- ---- the base's slices have no items

  no_place : IsTrue (is_empty (slices s m)) → (name : Text) → place_in_base name ≡ None
  no_place none name = ap place_of (none_named name (slices s m) none)

  -- ---- the order

  abbrev in_base_order : Slot → Slot → Bool
  in_base_order a b = may_follow (base_place s n m a) (base_place s n m b)

  order_pair : IsTrue (are_in_order (map (base_place s n m) (slices s n)))
      → (x y : Text) → IsTrue (may_be_in s n m x) → IsTrue (may_be_in s n m y) → IsTrue (may_follow (own_place x) (own_place y))
      → IsTrue (may_follow (place_in_base x) (place_in_base y))
  order_pair kept x y in_x in_y follows = by_case (slice_named s n x) (slice_named s n y) refl refl in_x in_y follows
    where
      by_case : (o p : Option Slot) → slice_named s n x ≡ o → slice_named s n y ≡ p → IsTrue (asks_in_own o x) → IsTrue (asks_in_own p y)
          → IsTrue (may_follow (place_of o) (place_of p)) → IsTrue (may_follow (place_in_base x) (place_in_base y))
      by_case None p at_x at_y in_x in_y follows =
          none_follows (slice_named s m x) (place_in_base y) (and_parts (not (is_closed s n)) (is_none (slice_named s m x)) in_x).1
      by_case (Some a) None at_x at_y in_x in_y follows =
          follows_no_slice (place_in_base x) (slice_named s m y) (and_parts (not (is_closed s n)) (is_none (slice_named s m y)) in_y).1
      by_case (Some a) (Some b) at_x at_y in_x in_y follows =
          let a_there = named_there x (slices s n) a at_x in
          let b_there = named_there y (slices s n) b at_y in
          elim (pair_holds in_base_order (slices s n) (slices_ascend s n) (sym (mapped_pairs may_follow (base_place s n m) (slices s n)) ∙ kept) a b a_there.0 b_there.0
          (leb-true a.entry b.entry follows)) [
            | inl same ↦
                let named : x ≡ y = a_there.1 ∙ ap (λ (z : Slot). z.name) same ∙ sym b_there.1 in
                sym (ap (λ name. may_follow (place_in_base x) (place_in_base name)) named) ∙ self_follows (place_in_base x)
            | inr ordered ↦
                (λ i. may_follow (place_in_base (a_there.1 i)) (place_in_base (b_there.1 i)))
                ∙ sym (λ i. may_follow (cond (in_x i) (place_in_base a.name) None) (cond (in_y i) (place_in_base b.name) None))
                ∙ ordered
          ]

  -- ---- the end

  abbrev own_order : Text → Text → Bool
  own_order x y = not (is_ordered s n) || may_follow (own_place x) (own_place y)

  abbrev own_end : Text → Text → Bool
  own_end x y = not (is_open_at_end s n) || not (is_none (own_place x) && is_some (own_place y))

  if_so : (b c : Bool) → IsTrue b → IsTrue (not b || c) → IsTrue c
  if_so true c is h = h
  if_so false c is h = absurd (false≢true is)

  closed_or : (b c : Bool) → IsTrue (b || c) → IsTrue (not b) → IsTrue c
  closed_or true c either none = absurd (false≢true none)
  closed_or false c either none = either

  abbrev has : Slot → Bool
  has a = has_named s m a

  abbrev new_last : Slot → Slot → Bool
  new_last a b = not (is_new has s n a && is_kept has s n b)

  end_pair : IsTrue (is_closed s n || is_open_at_end s n) → IsTrue (new_are_rest (has_named s m) s n)
      → (x y : Text) → IsTrue (may_be_in s n m x) → IsTrue (may_be_in s n m y) → IsTrue (own_order x y) → IsTrue (own_end x y)
      → IsTrue (not (is_none (place_in_base x) && is_some (place_in_base y)))
  end_pair keeps rest x y in_x in_y order end = by_case (slice_named s m x) (slice_named s m y) refl refl
    where
      no_other : (a b : Slot) → IsTrue (new_last a b) → IsTrue (is_new has s n a) → IsTrue (is_kept has s n b) → ⊥
      no_other a b apart new kept = false≢true (sym (λ i. not (new i && kept i)) ∙ apart)

      both_known : (a b c : Slot) → slice_named s n x ≡ Some a → slice_named s n y ≡ Some b → IsTrue (is_live s n a) → IsTrue (is_live s n b)
          → slice_named s m x ≡ None → slice_named s m y ≡ Some c → ⊥
      both_known a b c at_x at_y live_a live_b none some =
          let a_there = named_there x (slices s n) a at_x in
          let b_there = named_there y (slices s n) b at_y in
          let lacks : is_some (slice_named s m a.name) ≡ false = ap (λ name. is_some (slice_named s m name)) (sym a_there.1) ∙ ap is_some none in
          let holds : is_some (slice_named s m b.name) ≡ true = ap (λ name. is_some (slice_named s m name)) (sym b_there.1) ∙ ap is_some some in
          let new : IsTrue (is_new has s n a) = (λ i. live_a i && not (lacks i)) in
          let kept : IsTrue (is_kept has s n b) = (λ i. live_b i && holds i) in
          elim (or_cases (not (list_any (is_new has s n) (slices s n))) (is_ordered s n && new_come_last has s n) rest) [
            | inl no_new ↦ some_new (is_new has s n) (slices s n) a a_there.0 new no_new
            | inr ordered ↦
                let parts = and_parts (is_ordered s n) (new_come_last has s n) ordered in
                let follows : IsTrue (may_follow (own_place x) (own_place y)) = if_so (is_ordered s n) (may_follow (own_place x) (own_place y)) parts.0 order in
                let le : IsTrue (may_follow (Some a.entry) (Some b.entry)) = sym (λ i. may_follow (place_of (at_x i)) (place_of (at_y i))) ∙ follows in
                elim (pair_holds new_last (slices s n) (slices_ascend s n) parts.1 a b a_there.0 b_there.0 (leb-true a.entry b.entry le)) [
                  | inl same ↦ false≢true (sym lacks ∙ ap (λ (z : Slot). is_some (slice_named s m z.name)) same ∙ holds)
                  | inr apart ↦ no_other a b apart new kept
                ]
          ]

      by_own : (o p : Option Slot) (c : Slot) → slice_named s n x ≡ o → slice_named s n y ≡ p → IsTrue (asks_in_own o x) → IsTrue (asks_in_own p y)
          → slice_named s m x ≡ None → slice_named s m y ≡ Some c → ⊥
      by_own o None c at_x at_y in_x in_y none some =
          false≢true (sym (ap is_none some) ∙ (and_parts (not (is_closed s n)) (is_none (slice_named s m y)) in_y).1)
      by_own None (Some b) c at_x at_y in_x in_y none some =
          let opens : IsTrue (is_open_at_end s n) =
          closed_or (is_closed s n) (is_open_at_end s n) keeps (and_parts (not (is_closed s n)) (is_none (slice_named s m x)) in_x).0 in
          let last : IsTrue (not (is_none (own_place x) && is_some (own_place y))) =
          if_so (is_open_at_end s n) (not (is_none (own_place x) && is_some (own_place y))) opens end in
          false≢true (sym (λ i. not (is_none (place_of (at_x i)) && is_some (place_of (at_y i)))) ∙ last)
      by_own (Some a) (Some b) c at_x at_y in_x in_y none some = both_known a b c at_x at_y in_x in_y none some

      by_case : (o p : Option Slot) → slice_named s m x ≡ o → slice_named s m y ≡ p → IsTrue (not (is_none (place_of o) && is_some (place_of p)))
      by_case (Some a) p at_x at_y = refl
      by_case None None at_x at_y = refl
      by_case None (Some c) at_x at_y = absurd (by_own (slice_named s n x) (slice_named s n y) c refl refl in_x in_y at_x at_y)

  -- ---- both

  module _ (names : List Text) (each : IsTrue (list_all (may_be_in s n m) names)) (own : IsTrue (order_holds s n names)) where
    abbrev own_places : List (Option ℕ)
    own_places = map own_place names

    parts : IsTrue (not (is_ordered s n) || are_in_order own_places) × IsTrue (not (is_open_at_end s n) || is_rest_last own_places)
    parts = and_parts (not (is_ordered s n) || are_in_order own_places) (not (is_open_at_end s n) || is_rest_last own_places) own

    orders : IsTrue (each_pair own_order names)
    orders =
        pairs_unless (is_ordered s n) (λ x y. may_follow (own_place x) (own_place y)) names
        (sym (ap (λ b. not (is_ordered s n) || b) (mapped_pairs may_follow own_place names)) ∙ parts.0)

    ends : IsTrue (each_pair own_end names)
    ends =
        pairs_unless (is_open_at_end s n) (λ x y. not (is_none (own_place x) && is_some (own_place y))) names
        (sym (ap (λ b. not (is_open_at_end s n) || b) (mapped_pairs (λ p q. not (is_none p && is_some q)) own_place names)) ∙ parts.1)

    ordered_kept : IsTrue (ordered_narrower s n m) → IsTrue (not (is_ordered s m) || are_in_order (map place_in_base names))
    ordered_kept narrower =
        elim (or_cases (is_empty (slices s m) || not (is_ordered s m)) (is_ordered s n && are_in_order (map (base_place s n m) (slices s n))) narrower) [
          | inl free ↦
              elim (or_cases (is_empty (slices s m)) (not (is_ordered s m)) free) [
                | inl none ↦
                    or_right (not (is_ordered s m)) (are_in_order (map place_in_base names))
                    (mapped_pairs may_follow place_in_base names
                    ∙ all_pairs (λ x y. may_follow (place_in_base x) (place_in_base y))
                    (λ x y. ap (λ o. may_follow o (place_in_base y)) (no_place none x)) names)
                | inr unordered ↦ or_left (not (is_ordered s m)) (are_in_order (map place_in_base names)) unordered
              ]
          | inr kept ↦
              let both = and_parts (is_ordered s n) (are_in_order (map (base_place s n m) (slices s n))) kept in
              or_right (not (is_ordered s m)) (are_in_order (map place_in_base names))
              (mapped_pairs may_follow place_in_base names
              ∙ pairs_step (may_be_in s n m) own_order own_end (λ x y. may_follow (place_in_base x) (place_in_base y))
              (λ x y in_x in_y order end.
              order_pair both.1 x y in_x in_y (if_so (is_ordered s n) (may_follow (own_place x) (own_place y)) both.0 order)) names each orders ends)
        ]

    end_kept : IsTrue (end_narrower s n m) → IsTrue (not (is_open_at_end s m) || is_rest_last (map place_in_base names))
    end_kept narrower =
        elim (or_cases (is_empty (slices s m) || not (is_open_at_end s m)) ((is_closed s n || is_open_at_end s n) && new_are_rest (has_named s m) s n) narrower) [
          | inl free ↦
              elim (or_cases (is_empty (slices s m)) (not (is_open_at_end s m)) free) [
                | inl none ↦
                    or_right (not (is_open_at_end s m)) (is_rest_last (map place_in_base names))
                    (mapped_pairs (λ p q. not (is_none p && is_some q)) place_in_base names
                    ∙ all_pairs (λ x y. not (is_none (place_in_base x) && is_some (place_in_base y)))
                    (λ x y. λ i. not (is_none (no_place none x i) && is_some (no_place none y i))) names)
                | inr closes ↦ or_left (not (is_open_at_end s m)) (is_rest_last (map place_in_base names)) closes
              ]
          | inr keeps ↦
              let both = and_parts (is_closed s n || is_open_at_end s n) (new_are_rest (has_named s m) s n) keeps in
              or_right (not (is_open_at_end s m)) (is_rest_last (map place_in_base names))
              (mapped_pairs (λ p q. not (is_none p && is_some q)) place_in_base names
              ∙ pairs_step (may_be_in s n m) own_order own_end (λ x y. not (is_none (place_in_base x) && is_some (place_in_base y)))
              (end_pair both.0 both.1) names each orders ends)
        ]

    pub order_kept : IsTrue (order_narrower s n m) → IsTrue (order_holds s m names)
    order_kept narrower =
        let both = and_parts (ordered_narrower s n m) (end_narrower s n m) narrower in
        and_from (not (is_ordered s m) || are_in_order (map place_in_base names)) (not (is_open_at_end s m) || is_rest_last (map place_in_base names))
        (ordered_kept both.0) (end_kept both.1)
