-- What the rules of a slot promise of how its items stand to one another.
use Rattle.std.proofs.Common.{◌≡◌, ℕ, suc, zero, ◌+◌, ◌≤◌, Bool, true, false, not, ◌&&◌, ◌||◌, List, [], ◌∷◌, ◌++◌, map, Option, None, Some, is_some, is_none, IsTrue, refl, sym, ap, subst, ◌∙◌, ◌⊎◌, inl, inr, cond, arith}
use Rattle.std.specs.Option.{option_map, option_map_or, option_and_then}
use Rattle.std.specs.List.{list_all, list_any, find}
use Rattle.std.specs.Str.{bytes_eq}
use Rattle.std.proofs.lemmas.Bool.{and_parts, and_from, or_cases, or_left, or_right, leb-true, not-true, false≢true, true≢false}
use Rattle.std.proofs.lemmas.Option.{none-some, same_Some}
use Rattle.std.proofs.lemmas.Slice.Eq.{bytes_eq-Decides}
use Rattle.fhir_json.specs.Tree.{Text}
use Rattle.fhir_json.specs.Bytes.{is_empty}
use Rattle.fhir_nodes.specs.declared.node.NodeRef.{NodeRef}
use Rattle.fhir_nodes.specs.Slots.{Slot}
use Rattle.fhir_schema.specs.Schemas.{SchemaValue, slices, slice_named, is_closed, entry_of, criteria}
use Rattle.fhir_instance.specs.Items.{Item, Kids, no_kids, kid, kids_of}
use Rattle.fhir_facets.specs.Order.{each_pair, may_follow, are_in_order, none_behind, is_ordered, is_open_at_end, is_live, base_place, ordered_narrower, is_new, is_kept, new_come_last, new_are_rest}
use Rattle.fhir_facets.proofs.Ordered.{IsSliceIn, pair_holds, slices_ascend}
use Rattle.fhir_facets.proofs.KeptOrder.{all_pairs, mapped_pairs, pairs_unless, self_follows, follows_none}
use Rattle.fhir_slicing.specs.Belonging.{is_in, is_apart, is_sliced, slice_of, belongs}
use Rattle.fhir_slicing.specs.SameCriteria.{same_criteria}
use Rattle.fhir_conformance.specs.Asks.{Ask, own, in_order, places_from, places_of, order_asks, rest_ask, behind_rest, sequence_asks}
use Rattle.fhir_conformance.specs.Positions.{kid_at, at_kid, slice_at, slice_place}
use Rattle.fhir_conformance.proofs.Sequenced.{order_is, rest_is}
use Rattle.fhir_cert_check.specs.Rules.{is_shared, end_answers}
use Rattle.fhir_cert_check.proofs.Answered.{all_append, all_joined}
use Rattle.fhir_cert_check.proofs.Within.{Within, at_within, found_within, within_any}

-- ---- lists

-- the first of two kinds, where each is of both
first_of_both : {A : Type 0} (p q : A → Bool) (xs : List A) (a b : A) → find p xs ≡ Some a → find q xs ≡ Some b → IsTrue (p b) → IsTrue (q a) → a ≡ b
first_of_both p q [] a b is_a is_b p_b q_a = absurd (none-some a is_a)
first_of_both {A} p q (x ∷ xs) a b is_a is_b p_b q_a = by_case (p x) (q x) refl refl (first_of_both p q xs a b) is_a is_b
  where
    by_case : (t u : Bool) → p x ≡ t → q x ≡ u → (find p xs ≡ Some a → find q xs ≡ Some b → IsTrue (p b) → IsTrue (q a) → a ≡ b) → cond t (Some x) (find p xs) ≡ Some a → cond u (Some x) (find q xs) ≡ Some b → a ≡ b
    by_case true true p_x q_x further is_a is_b = sym (same_Some x a is_a) ∙ same_Some x b is_b
    by_case true false p_x q_x further is_a is_b = absurd (false≢true (sym q_x ∙ ap q (same_Some x a is_a) ∙ q_a))
    by_case false true p_x q_x further is_a is_b = absurd (false≢true (sym p_x ∙ ap p (same_Some x b is_b) ∙ p_b))
    by_case false false p_x q_x further is_a is_b = further is_a is_b p_b q_a

-- one that passes is there, so that one is found
is_found : {A : Type 0} (p : A → Bool) (xs : List A) (a : A) → Within a xs → IsTrue (p a) → (b : A) × (find p xs ≡ Some b)
is_found p [] a there is = absurd there
is_found {A} p (x ∷ xs) a there is = by_case (p x) refl (is_found p xs a)
  where
    by_case : (t : Bool) → p x ≡ t → (Within a xs → IsTrue (p a) → (b : A) × (find p xs ≡ Some b)) → (b : A) × (cond t (Some x) (find p xs) ≡ Some b)
    by_case true p_x further = (x, refl)
    by_case false p_x further =
        elim there [
          | inl here ↦ absurd (false≢true (sym p_x ∙ sym (ap p here) ∙ is))
          | inr behind ↦ further behind is
        ]

slice_there : (a : Slot) (ss : List Slot) → Within a ss → IsSliceIn a ss
slice_there a [] there = there
slice_there a (b ∷ ss) there =
    elim there [
      | inl here ↦ inl here
      | inr behind ↦ inr (slice_there a ss behind)
    ]

pairs_within : {A : Type 0} (r q t : A → A → Bool) (xs : List A)
    → ((x y : A) → Within x xs → Within y xs → IsTrue (r x y) → IsTrue (q x y) → IsTrue (t x y))
    → IsTrue (each_pair r xs) → IsTrue (each_pair q xs) → IsTrue (each_pair t xs)
pairs_within r q t [] f one other = refl
pairs_within {A} r q t (x ∷ xs) f one other =
    let ones = and_parts (list_all (r x) xs) (each_pair r xs) one in
    let others = and_parts (list_all (q x) xs) (each_pair q xs) other in
    and_from (list_all (t x) xs) (each_pair t xs)
    (here xs (λ y there. f x y (inl refl) (inr there)) ones.0 others.0)
    (pairs_within r q t xs (λ y z at_y at_z. f y z (inr at_y) (inr at_z)) ones.1 others.1)
  where
    here : (ys : List A) → ((y : A) → Within y ys → IsTrue (r x y) → IsTrue (q x y) → IsTrue (t x y)) → IsTrue (list_all (r x) ys) → IsTrue (list_all (q x) ys)
        → IsTrue (list_all (t x) ys)
    here [] g one other = refl
    here (y ∷ ys) g one other =
        let ones = and_parts (r x y) (list_all (r x) ys) one in
        let others = and_parts (q x y) (list_all (q x) ys) other in
        and_from (t x y) (list_all (t x) ys) (g y (inl refl) ones.0 others.0) (here ys (λ z there. g z (inr there)) ones.1 others.1)

-- at the place of a child there is one
pub child_there : (i : ℕ) (name : Text) (kids : Kids) (j : ℕ) → Within j (places_from i name kids) → (m : ℕ) × (j ≡ i + m) × (y : Item) × (kid_at kids m ≡ Some y)
child_there i name no_kids j there = absurd there
child_there i name (kid other y kids) j there = by_case (bytes_eq name other) there (child_there (suc i) name kids j)
  where
    further : ((m : ℕ) × (j ≡ suc i + m) × (z : Item) × (kid_at kids m ≡ Some z)) → (m : ℕ) × (j ≡ i + m) × (z : Item) × (kid_at (kid other y kids) m ≡ Some z)
    further found =
        let at : j ≡ suc i + found.0 = found.1 in
        (suc found.0, omega (arith, at), found.2, found.3)

    by_case : (b : Bool) → Within j (cond b (i ∷ places_from (suc i) name kids) (places_from (suc i) name kids))
        → (Within j (places_from (suc i) name kids) → (m : ℕ) × (j ≡ suc i + m) × (z : Item) × (kid_at kids m ≡ Some z))
        → (m : ℕ) × (j ≡ i + m) × (z : Item) × (kid_at (kid other y kids) m ≡ Some z)
    by_case true there behind_there =
        elim there [
          | inl here ↦ (zero, omega (arith, here), y, refl)
          | inr behind ↦ further (behind_there behind)
        ]
    by_case false there behind_there = further (behind_there there)

none_found : {A : Type 0} (p : A → Bool) (xs : List A) → find p xs ≡ None → IsTrue (list_any p xs) → ⊥
none_found p [] none some = false≢true some
none_found {A} p (x ∷ xs) none some = by_case (p x) none some (none_found p xs)
  where
    by_case : (t : Bool) → cond t (Some x) (find p xs) ≡ None → IsTrue (t || list_any p xs) → (find p xs ≡ None → IsTrue (list_any p xs) → ⊥) → ⊥
    by_case true none some further = none-some x (sym none)
    by_case false none some further = further none some

abbrev place_of : Option Slot → Option ℕ
place_of o = option_map (λ slice. slice.entry) o

if_so : (b c : Bool) → IsTrue b → IsTrue (not b || c) → IsTrue c
if_so true c is h = h
if_so false c is h = absurd (false≢true is)

-- ---- slices of the base, each with the derived one's of its name

module _ (s : SchemaValue) (alike : (n k : NodeRef) (x : Item) → IsTrue (same_criteria s n k) → belongs s (criteria s n) x ≡ belongs s (criteria s k) x) (n k : NodeRef) where
  abbrev pub EachOwn : Type 0
  EachOwn = (b : Slot) → Within b (slices s k) → (a : Slot) × (slice_named s n b.name ≡ Some a) × IsTrue (same_criteria s (entry_of n a) (entry_of k b))

  module _ (each_own : EachOwn) where
    abbrev named : Text → Slot → Bool
    named name slice = bytes_eq name slice.name

    own_named : (b : Slot) → IsTrue (named b.name b)
    own_named b = (bytes_eq-Decides b.name b.name).1 refl

    -- ---- an item that is in a slice of the base's

    module _ (y : Item) (apart : IsTrue (is_apart s n y)) (b : Slot) (is_b : slice_of s k y ≡ Some b) where
      b_there : Within b (slices s k) × IsTrue (is_in s k y b)
      b_there = found_within (is_in s k y) (slices s k) b is_b

      own_b : (a : Slot) × (slice_named s n b.name ≡ Some a) × IsTrue (same_criteria s (entry_of n a) (entry_of k b))
      own_b = each_own b b_there.0

      abbrev a : Slot
      a = own_b.0

      a_there : Within a (slices s n) × IsTrue (named b.name a)
      a_there = found_within (named b.name) (slices s n) a own_b.1

      in_a : IsTrue (is_in s n y a)
      in_a = alike (entry_of n a) (entry_of k b) y own_b.2 ∙ b_there.1

      -- it is in no other of the derived one's
      only_one : (c : Slot) → slice_of s n y ≡ Some c → c ≡ a
      only_one c is_c =
          let c_there = found_within (is_in s n y) (slices s n) c is_c in
          let one_name : IsTrue (bytes_eq a.name c.name || not (is_in s n y a && is_in s n y c)) =
          at_within (λ z. bytes_eq a.name z.name || not (is_in s n y a && is_in s n y z)) (slices s n) c c_there.0
          (at_within (λ w. list_all (λ z. bytes_eq w.name z.name || not (is_in s n y w && is_in s n y z)) (slices s n)) (slices s n) a a_there.0 apart) in
          first_of_both (is_in s n y) (named b.name) (slices s n) c a is_c own_b.1 in_a
          (elim (or_cases (bytes_eq a.name c.name) (not (is_in s n y a && is_in s n y c)) one_name) [
            | inl same ↦ ap (λ (name : Text). bytes_eq name c.name) ((bytes_eq-Decides b.name a.name).0 a_there.1) ∙ same
            | inr others ↦ absurd (false≢true (sym (λ i. not (in_a i && c_there.1 i)) ∙ others))
          ])

      own_slice : slice_of s n y ≡ Some a
      own_slice = let c = is_found (is_in s n y) (slices s n) a a_there.0 in_a in c.1 ∙ ap (λ (z : Slot). Some z) (only_one c.0 c.1)

      same_name : a.name ≡ b.name
      same_name = sym ((bytes_eq-Decides b.name a.name).0 a_there.1)

      -- the base's first slice of that name is this one
      base_slice : slice_named s k b.name ≡ Some b
      base_slice =
          let c = is_found (named b.name) (slices s k) b b_there.0 (own_named b) in
          let c_there = found_within (named b.name) (slices s k) c.0 c.1 in
          let c_name : b.name ≡ c.0.name = (bytes_eq-Decides b.name c.0.name).0 c_there.1 in
          let own_c = each_own c.0 c_there.0 in
          let one : own_c.0 ≡ a = same_Some own_c.0 a (sym own_c.1 ∙ ap (slice_named s n) (sym c_name) ∙ own_b.1) in
          let in_c : IsTrue (is_in s k y c.0) =
          sym (alike (entry_of n own_c.0) (entry_of k c.0) y own_c.2) ∙ ap (λ z. is_in s n y z) one ∙ in_a in
          c.1 ∙ ap (λ (z : Slot). Some z) (sym (first_of_both (is_in s k y) (named b.name) (slices s k) b c.0 is_b c.1 in_c (own_named b)))

    -- ---- two items, one behind the other

    module _ (y z : Item) (apart_y : IsTrue (is_apart s n y)) (apart_z : IsTrue (is_apart s n z))
        (live_y : (c : Slot) → slice_of s n y ≡ Some c → IsTrue (is_live s n c)) (live_z : (c : Slot) → slice_of s n z ≡ Some c → IsTrue (is_live s n c)) where
      abbrev in_base_order : Slot → Slot → Bool
      in_base_order c d = may_follow (base_place s n k c) (base_place s n k d)

      order_items : IsTrue (are_in_order (map (base_place s n k) (slices s n)))
          → IsTrue (may_follow (place_of (slice_of s n y)) (place_of (slice_of s n z))) → IsTrue (may_follow (place_of (slice_of s k y)) (place_of (slice_of s k z)))
      order_items kept follows = by_case (slice_of s k y) (slice_of s k z) refl refl
        where
          by_case : (o p : Option Slot) → slice_of s k y ≡ o → slice_of s k z ≡ p → IsTrue (may_follow (place_of o) (place_of p))
          by_case None p at_y at_z = refl
          by_case (Some b) None at_y at_z = refl
          by_case (Some b) (Some d) at_y at_z =
              let a_y = a y apart_y b at_y in
              let a_z = a z apart_z d at_z in
              let found_y = own_slice y apart_y b at_y in
              let found_z = own_slice z apart_z d at_z in
              let named_y : slice_named s k a_y.name ≡ Some b = ap (slice_named s k) (same_name y apart_y b at_y) ∙ base_slice y apart_y b at_y in
              let named_z : slice_named s k a_z.name ≡ Some d = ap (slice_named s k) (same_name z apart_z d at_z) ∙ base_slice z apart_z d at_z in
              let le : IsTrue (may_follow (Some a_y.entry) (Some a_z.entry)) = sym (λ i. may_follow (place_of (found_y i)) (place_of (found_z i))) ∙ follows in
              elim (pair_holds in_base_order (slices s n) (slices_ascend s n) (sym (mapped_pairs may_follow (base_place s n k) (slices s n)) ∙ kept) a_y a_z
              (slice_there a_y (slices s n) (a_there y apart_y b at_y).0) (slice_there a_z (slices s n) (a_there z apart_z d at_z).0)
              (leb-true a_y.entry a_z.entry le)) [
                | inl same ↦
                    let one : b ≡ d = same_Some b d (sym named_y ∙ ap (λ (w : Slot). slice_named s k w.name) same ∙ named_z) in
                    sym (ap (λ (w : Slot). may_follow (Some b.entry) (Some w.entry)) one) ∙ self_follows (Some b.entry)
                | inr ordered ↦
                    sym (λ i. may_follow (cond (live_y a_y found_y i) (place_of (named_y i)) None) (cond (live_z a_z found_z i) (place_of (named_z i)) None)) ∙ ordered
              ]

      abbrev new_last : Slot → Slot → Bool
      new_last c d = not (is_new (is_shared s n k) s n c && is_kept (is_shared s n k) s n d)

      end_items : IsTrue (is_closed s n || is_open_at_end s n) → IsTrue (new_are_rest (is_shared s n k) s n) → (IsTrue (is_closed s n) → IsTrue (is_sliced s n y))
          → IsTrue (not (is_ordered s n) || may_follow (place_of (slice_of s n y)) (place_of (slice_of s n z)))
          → IsTrue (not (is_open_at_end s n) || not (is_none (place_of (slice_of s n y)) && is_some (place_of (slice_of s n z))))
          → IsTrue (not (is_none (place_of (slice_of s k y)) && is_some (place_of (slice_of s k z))))
      end_items keeps rest closed_y order end = by_case (slice_of s k y) (slice_of s k z) refl refl
        where
          -- the earlier item is in a slice of the derived element's that the base lacks
          in_new : (c d : Slot) → slice_of s n y ≡ Some c → slice_of s k z ≡ Some d → is_shared s n k c ≡ false → ⊥
          in_new c d at_y at_z lacks =
              let a_z = a z apart_z d at_z in
              let found_z = own_slice z apart_z d at_z in
              let named_z : slice_named s k a_z.name ≡ Some d = ap (slice_named s k) (same_name z apart_z d at_z) ∙ base_slice z apart_z d at_z in
              let shared : IsTrue (is_shared s n k a_z) =
              ap (λ o. option_map_or (λ b. same_criteria s (entry_of n a_z) (entry_of k b)) o false) named_z ∙ (own_b z apart_z d at_z).2 in
              let new : IsTrue (is_new (is_shared s n k) s n c) = (λ i. live_y c at_y i && not (lacks i)) in
              let kept : IsTrue (is_kept (is_shared s n k) s n a_z) = (λ i. live_z a_z found_z i && shared i) in
              let c_there = (found_within (is_in s n y) (slices s n) c at_y).0 in
              elim (or_cases (not (list_any (is_new (is_shared s n k) s n) (slices s n))) (is_ordered s n && new_come_last (is_shared s n k) s n) rest) [
                | inl no_new ↦
                    true≢false (sym (within_any (is_new (is_shared s n k) s n) (slices s n) c c_there new) ∙ not-true (list_any (is_new (is_shared s n k) s n) (slices s n)) no_new)
                | inr ordered ↦
                    let parts = and_parts (is_ordered s n) (new_come_last (is_shared s n k) s n) ordered in
                    let follows = if_so (is_ordered s n) (may_follow (place_of (slice_of s n y)) (place_of (slice_of s n z))) parts.0 order in
                    let le : IsTrue (may_follow (Some c.entry) (Some a_z.entry)) = sym (λ i. may_follow (place_of (at_y i)) (place_of (found_z i))) ∙ follows in
                    elim (pair_holds new_last (slices s n) (slices_ascend s n) parts.1 c a_z (slice_there c (slices s n) c_there)
                    (slice_there a_z (slices s n) (a_there z apart_z d at_z).0) (leb-true c.entry a_z.entry le)) [
                      | inl same ↦ false≢true (sym lacks ∙ ap (is_shared s n k) same ∙ shared)
                      | inr others ↦ false≢true (sym (λ i. not (new i && kept i)) ∙ others)
                    ]
              ]

          in_base_too : (c : Slot) → slice_of s n y ≡ Some c → (o : Option Slot) → slice_named s k c.name ≡ o
              → IsTrue (option_map_or (λ b. same_criteria s (entry_of n c) (entry_of k b)) o false) → slice_of s k y ≡ None → ⊥
          in_base_too c at_y None at_name shared none = false≢true shared
          in_base_too c at_y (Some b) at_name shared none =
              let in_c = (found_within (is_in s n y) (slices s n) c at_y).1 in
              none_found (is_in s k y) (slices s k) none
              (within_any (is_in s k y) (slices s k) b (found_within (λ slice. bytes_eq c.name slice.name) (slices s k) b at_name).0
              (sym (alike (entry_of n c) (entry_of k b) y shared) ∙ in_c))

          by_shared : (c d : Slot) → slice_of s n y ≡ Some c → slice_of s k y ≡ None → slice_of s k z ≡ Some d → (t : Bool) → is_shared s n k c ≡ t → ⊥
          by_shared c d at_y none at_z true shared = in_base_too c at_y (slice_named s k c.name) refl shared none
          by_shared c d at_y none at_z false lacks = in_new c d at_y at_z lacks

          by_own : (o : Option Slot) (d : Slot) → slice_of s n y ≡ o → slice_of s k y ≡ None → slice_of s k z ≡ Some d → ⊥
          by_own (Some c) d at_y none at_z = by_shared c d at_y none at_z (is_shared s n k c) refl
          by_own None d at_y none at_z =
              elim (or_cases (is_closed s n) (is_open_at_end s n) keeps) [
                | inl closes ↦ none_found (is_in s n y) (slices s n) at_y (closed_y closes)
                | inr opens ↦
                    false≢true (sym (λ i. not (is_none (place_of (at_y i)) && is_some (place_of (own_slice z apart_z d at_z i))))
                    ∙ if_so (is_open_at_end s n) (not (is_none (place_of (slice_of s n y)) && is_some (place_of (slice_of s n z)))) opens end)
              ]

          by_case : (o p : Option Slot) → slice_of s k y ≡ o → slice_of s k z ≡ p → IsTrue (not (is_none (place_of o) && is_some (place_of p)))
          by_case (Some b) p at_y at_z = refl
          by_case None None at_y at_z = refl
          by_case None (Some d) at_y at_z = absurd (by_own (slice_of s n y) d refl at_y at_z)

    -- ---- the children of a name

    module _ (x : Item) (places : List ℕ) (holds : Ask → Bool)
        (order_judged : (m : NodeRef) (j i : ℕ) → holds (own (in_order j i) m) ≡ may_follow (slice_place s x m j) (slice_place s x m i))
        (rest_judged : (m : NodeRef) (i : ℕ) → holds (rest_ask m i) ≡ is_none (slice_place s x m i))
        (child_at : (i : ℕ) → Within i places → (y : Item) × (kid_at (kids_of x) i ≡ Some y))
        (apart_at : (i : ℕ) (y : Item) → Within i places → kid_at (kids_of x) i ≡ Some y → IsTrue (is_apart s n y))
        (live_at : (i : ℕ) (y : Item) → Within i places → kid_at (kids_of x) i ≡ Some y → (c : Slot) → slice_of s n y ≡ Some c → IsTrue (is_live s n c))
        (closed_at : (i : ℕ) (y : Item) → Within i places → kid_at (kids_of x) i ≡ Some y → IsTrue (is_closed s n) → IsTrue (is_sliced s n y)) where
      abbrev place : NodeRef → ℕ → Option ℕ
      place m i = slice_place s x m i

      abbrev own_order : ℕ → ℕ → Bool
      own_order j i = not (is_ordered s n) || may_follow (place n j) (place n i)

      abbrev own_end : ℕ → ℕ → Bool
      own_end j i = not (is_open_at_end s n) || not (is_none (place n j) && is_some (place n i))

      here : (m : NodeRef) (i : ℕ) (y : Item) → kid_at (kids_of x) i ≡ Some y → place m i ≡ place_of (slice_of s m y)
      here m i y e = ap (λ o. place_of (option_and_then (slice_of s m) o)) e

      order_pair : IsTrue (is_ordered s n) → IsTrue (are_in_order (map (base_place s n k) (slices s n))) → (j i : ℕ) → Within j places → Within i places
          → IsTrue (own_order j i) → IsTrue (may_follow (place k j) (place k i))
      order_pair ordered kept j i at_j at_i order =
          let y = child_at j at_j in
          let z = child_at i at_i in
          (λ t. may_follow (here k j y.0 y.1 t) (here k i z.0 z.1 t))
          ∙ order_items y.0 z.0 (apart_at j y.0 at_j y.1) (apart_at i z.0 at_i z.1) (live_at j y.0 at_j y.1) (live_at i z.0 at_i z.1) kept
          (sym (λ t. may_follow (here n j y.0 y.1 t) (here n i z.0 z.1 t)) ∙ if_so (is_ordered s n) (may_follow (place n j) (place n i)) ordered order)

      end_pair : IsTrue (is_closed s n || is_open_at_end s n) → IsTrue (new_are_rest (is_shared s n k) s n) → (j i : ℕ) → Within j places → Within i places
          → IsTrue (own_order j i) → IsTrue (own_end j i) → IsTrue (not (is_none (place k j) && is_some (place k i)))
      end_pair keeps rest j i at_j at_i order end =
          let y = child_at j at_j in
          let z = child_at i at_i in
          (λ t. not (is_none (here k j y.0 y.1 t) && is_some (here k i z.0 z.1 t)))
          ∙ end_items y.0 z.0 (apart_at j y.0 at_j y.1) (apart_at i z.0 at_i z.1) (live_at j y.0 at_j y.1) (live_at i z.0 at_i z.1) keeps rest
          (closed_at j y.0 at_j y.1)
          (sym (λ t. not (is_ordered s n) || may_follow (here n j y.0 y.1 t) (here n i z.0 z.1 t)) ∙ order)
          (sym (λ t. not (is_open_at_end s n) || not (is_none (here n j y.0 y.1 t) && is_some (here n i z.0 z.1 t))) ∙ end)

      abbrev ordered_part : NodeRef → List Ask
      ordered_part m = cond (is_ordered s m) (order_asks s x m [] places) []

      abbrev end_part : NodeRef → List Ask
      end_part m = cond (is_open_at_end s m) (map (rest_ask m) (behind_rest s x m places)) []

      orders : IsTrue (list_all holds (ordered_part n)) → IsTrue (each_pair own_order places)
      orders each = by_case (is_ordered s n) each
        where
          by_case : (b : Bool) → IsTrue (list_all holds (cond b (order_asks s x n [] places) [])) → IsTrue (each_pair (λ j i. not b || may_follow (place n j) (place n i)) places)
          by_case true each = sym (order_is s x n holds (order_judged n) places) ∙ each
          by_case false each = all_pairs (λ j i. true) (λ j i. refl) places

      ends : IsTrue (list_all holds (end_part n)) → IsTrue (each_pair own_end places)
      ends each = by_case (is_open_at_end s n) each
        where
          by_case : (b : Bool) → IsTrue (list_all holds (cond b (map (rest_ask n) (behind_rest s x n places)) []))
              → IsTrue (each_pair (λ j i. not b || not (is_none (place n j) && is_some (place n i))) places)
          by_case true each = sym (rest_is s x n holds (rest_judged n) places) ∙ each
          by_case false each = all_pairs (λ j i. true) (λ j i. refl) places

      -- what the base's slicing says in a case is no way out where it does say so
      no_way_out : (none says rest : Bool) → none ≡ false → says ≡ true → IsTrue (none || not says || rest) → IsTrue rest
      no_way_out true says rest some is h = absurd (true≢false some)
      no_way_out false true rest some is h = h
      no_way_out false false rest some is h = absurd (false≢true is)

      pub sequence_step : is_empty (slices s k) ≡ false → IsTrue (ordered_narrower s n k) → IsTrue (end_answers s n k)
          → IsTrue (list_all holds (sequence_asks s x n places)) → IsTrue (list_all holds (sequence_asks s x k places))
      sequence_step sliced narrower ends_so each =
          let parts = all_append holds (ordered_part n) (end_part n) each in
          all_joined holds (ordered_part k) (end_part k) (of_order (orders parts.0) (ends parts.1) (is_ordered s k) refl) (of_end (orders parts.0) (ends parts.1) (is_open_at_end s k) refl)
        where
          of_order : IsTrue (each_pair own_order places) → IsTrue (each_pair own_end places) → (b : Bool) → is_ordered s k ≡ b → IsTrue (list_all holds (cond b (order_asks s x k [] places) []))
          of_order order end false is = refl
          of_order order end true is =
              let kept = and_parts (is_ordered s n) (are_in_order (map (base_place s n k) (slices s n)))
              (no_way_out (is_empty (slices s k)) (is_ordered s k) (is_ordered s n && are_in_order (map (base_place s n k) (slices s n))) sliced is narrower) in
              order_is s x k holds (order_judged k) places
              ∙ pairs_within own_order own_end (λ j i. may_follow (place k j) (place k i)) places
              (λ j i at_j at_i order end. order_pair kept.0 kept.1 j i at_j at_i order) order end

          of_end : IsTrue (each_pair own_order places) → IsTrue (each_pair own_end places) → (b : Bool) → is_open_at_end s k ≡ b
              → IsTrue (list_all holds (cond b (map (rest_ask k) (behind_rest s x k places)) []))
          of_end order end false is = refl
          of_end order end true is =
              let kept = and_parts (is_closed s n || is_open_at_end s n) (new_are_rest (is_shared s n k) s n)
              (no_way_out (is_empty (slices s k)) (is_open_at_end s k) ((is_closed s n || is_open_at_end s n) && new_are_rest (is_shared s n k) s n) sliced is ends_so) in
              rest_is s x k holds (rest_judged k) places
              ∙ pairs_within own_order own_end (λ j i. not (is_none (place k j) && is_some (place k i))) places
              (end_pair kept.0 kept.1) order end
