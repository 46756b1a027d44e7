-- The slices of an element stand one behind the other in the definition. What is so of each pair of them is so of two of which one
-- doesn't stand after the other.
use Rattle.std.proofs.Common.{◌≡◌, ℕ, zero, suc, ◌≤◌, ◌<◌, Bool, true, false, List, [], ◌∷◌, map, get_or, length, Option, IsTrue, refl, sym, ap, ◌∙◌, ◌⊎◌, inl, inr, subst, cond, arith}
use Rattle.std.specs.List.{list_all, AllByRecursion}
use Rattle.std.proofs.lemmas.Bool.{and_parts}
use Rattle.fhir_elements.specs.Element.{Element}
use Rattle.fhir_definition.specs.Definition.{Definition}
use Rattle.fhir_definition.specs.Snapshot.{is_at, slice_place}
use Rattle.fhir_definition.specs.Children.{under_from, under_each_from}
use Rattle.fhir_nodes.specs.declared.node.NodeRef.{NodeRef}
use Rattle.fhir_nodes.specs.Slots.{Slot, slice_at, slices_of, all_slices}
use Rattle.fhir_schema.specs.Schemas.{SchemaValue, slices}
use Rattle.fhir_facets.specs.Order.{each_pair}

-- ---- numbers, each greater than those before it

abbrev Climbs : List ℕ → Type 0
Climbs [] = Unit {0}
Climbs (k ∷ ks) = AllByRecursion (λ l. k < l) ks × Climbs ks

from_next : (i : ℕ) (ks : List ℕ) → AllByRecursion (λ k. suc i ≤ k) ks → AllByRecursion (λ k. i ≤ k) ks
from_next i [] each = tt
from_next i (k ∷ ks) each =
    let h : suc i ≤ k = each.0 in
    (omega (arith, h), from_next i ks each.1)

above : (i : ℕ) (ks : List ℕ) → AllByRecursion (λ k. suc i ≤ k) ks → AllByRecursion (λ k. i < k) ks
above i [] each = tt
above i (k ∷ ks) each =
    let h : suc i ≤ k = each.0 in
    (omega (arith, h), above i ks each.1)

not_before : (p i : ℕ) (ups : List (Option ℕ)) → AllByRecursion (λ k. i ≤ k) (under_from p i ups)
not_before p i [] = tt
not_before p i (up ∷ ups) = by_case (is_at p up) (not_before p (suc i) ups)
  where
    by_case : (b : Bool) → AllByRecursion (λ k. suc i ≤ k) (under_from p (suc i) ups) → AllByRecursion (λ k. i ≤ k) (cond b (i ∷ under_from p (suc i) ups) (under_from p (suc i) ups))
    by_case true behind = (omega arith, from_next i (under_from p (suc i) ups) behind)
    by_case false behind = from_next i (under_from p (suc i) ups) behind

climbs : (p i : ℕ) (ups : List (Option ℕ)) → Climbs (under_from p i ups)
climbs p i [] = tt
climbs p i (up ∷ ups) = by_case (is_at p up) (climbs p (suc i) ups)
  where
    by_case : (b : Bool) → Climbs (under_from p (suc i) ups) → Climbs (cond b (i ∷ under_from p (suc i) ups) (under_from p (suc i) ups))
    by_case true behind = (above i (under_from p (suc i) ups) (not_before p (suc i) ups), behind)
    by_case false behind = behind

-- ---- slices, each behind those before it

abbrev pub Ascends : List Slot → Type 0
Ascends [] = Unit {0}
Ascends (a ∷ ss) = AllByRecursion (λ b. a.entry < b.entry) ss × Ascends ss

behind_one : (es : List Element) (k : ℕ) (ks : List ℕ) → AllByRecursion (λ l. k < l) ks → AllByRecursion (λ b. k < b.entry) (map (slice_at es) ks)
behind_one es k [] each = tt
behind_one es k (l ∷ ks) each = (each.0, behind_one es k ks each.1)

ascend : (es : List Element) (ks : List ℕ) → Climbs ks → Ascends (map (slice_at es) ks)
ascend es [] climb = tt
ascend es (k ∷ ks) climb = (behind_one es k ks climb.0, ascend es ks climb.1)

each_ascends : (es : List Element) (ups : List (Option ℕ)) (p i : ℕ) → AllByRecursion Ascends (map (λ places. map (slice_at es) places) (under_each_from p i ups))
each_ascends es ups p zero = tt
each_ascends es ups p (suc i) = (ascend es (under_from p 0 ups) (climbs p 0 ups), each_ascends es ups (suc p) i)

all_ascend : (ds : List Definition) → AllByRecursion (AllByRecursion Ascends) (all_slices ds)
all_ascend [] = tt
all_ascend (d ∷ ds) = (each_ascends d.elements (map (slice_place d.elements) d.elements) 0 (length (map (slice_place d.elements) d.elements)), all_ascend ds)

one_at : {A : Type 0} (P : A → Type 0) (d : A) → P d → (xs : List A) → AllByRecursion P xs → (i : ℕ) → P (get_or xs i d)
one_at P d last [] each i = last
one_at P d last (x ∷ xs) each zero = each.0
one_at P d last (x ∷ xs) each (suc i) = one_at P d last xs each.1 i

pub slices_ascend : (s : SchemaValue) (n : NodeRef) → Ascends (slices s n)
slices_ascend s n =
    one_at Ascends [] tt (get_or (all_slices s.definitions) n.definition [])
    (one_at (AllByRecursion Ascends) [] tt (all_slices s.definitions) (all_ascend s.definitions) n.definition) n.element

-- ---- pairs of them

abbrev pub IsSliceIn : Slot → List Slot → Type 0
IsSliceIn a [] = ⊥
IsSliceIn a (b ∷ bs) = (a ≡ b) ⊎ IsSliceIn a bs

one_of : (P : Slot → Type 0) (bs : List Slot) (a : Slot) → AllByRecursion P bs → IsSliceIn a bs → P a
one_of P [] a each there = absurd there
one_of P (b ∷ bs) a each there =
    elim there [
      | inl here ↦ subst P (sym here) each.0
      | inr behind ↦ one_of P bs a each.1 behind
    ]

of_all : (p : Slot → Bool) (bs : List Slot) (a : Slot) → IsTrue (list_all p bs) → IsSliceIn a bs → IsTrue (p a)
of_all p [] a each there = absurd there
of_all p (b ∷ bs) a each there =
    let parts = and_parts (p b) (list_all p bs) each in
    elim there [
      | inl here ↦ ap p here ∙ parts.0
      | inr behind ↦ of_all p bs a parts.1 behind
    ]

pub pair_holds : (r : Slot → Slot → Bool) (ss : List Slot) → Ascends ss → IsTrue (each_pair r ss)
    → (a b : Slot) → IsSliceIn a ss → IsSliceIn b ss → a.entry ≤ b.entry → (a ≡ b) ⊎ IsTrue (r a b)
pair_holds r [] ascending pairs a b at_a at_b le = absurd at_a
pair_holds r (c ∷ ss) ascending pairs a b at_a at_b le =
    let parts = and_parts (list_all (r c) ss) (each_pair r ss) pairs in
    elim at_a [
      | inl is_a ↦
          elim at_b [
            | inl is_b ↦ inl (is_a ∙ sym is_b)
            | inr b_behind ↦ inr (ap (λ z. r z b) is_a ∙ of_all (r c) ss b parts.0 b_behind)
          ]
      | inr a_behind ↦
          elim at_b [
            | inl is_b ↦
                let after : c.entry < a.entry = one_of (λ z. c.entry < z.entry) ss a ascending.0 a_behind in
                let at : b.entry ≡ c.entry = ap (λ (z : Slot). z.entry) is_b in
                absurd (omega (arith, after, at, le))
            | inr b_behind ↦ pair_holds r ss ascending.1 parts.1 a b a_behind b_behind le
          ]
    ]
