-- What is on one side of a value that is on that side of another is on that side of the other.
use Rattle.std.proofs.Common.{◌≡◌, Bool, true, Option, Some, None, refl, sym, ap, ◌∙◌}
use Rattle.std.proofs.lemmas.Bool.{false≢true}
use Rattle.std.specs.declared.cmp.Ordering.{Ordering}
use Rattle.std.specs.declared.cmp.Ordering.TheVariants.{Less, Equal, Greater}
use Rattle.std.specs.Ordering.{ordering_reverse, is_le, is_ge, is_some_and, eq_by_cmp}
use Rattle.std.specs.Cmp.{IsPartialOrder, IsTotalOrder, po, po_right}
use Rattle.std.specs.Option.{option_map, option_and_then}
use Rattle.fhir_json.specs.Tree.{Tree}
use Rattle.fhir_decimal.specs.Value.{value_order}
use Rattle.fhir_prims.specs.Order.{moment_order, is_same_moment}
use Rattle.fhir_facets.specs.declared.scale.Scale.{Scale}
use Rattle.fhir_facets.specs.declared.scale.Scale.TheVariants.{Number, Moment, Time}
use Rattle.fhir_facets.specs.Ranges.{number_in, fields_in, is_beyond}

module _ {X : Type 0} {E : X → X → Bool} {C : X → X → Option Ordering} (o : IsPartialOrder E C) where
  le_by : (x y z : X) (r s : Option Ordering) → C x y ≡ r → C y z ≡ s → is_some_and is_le r ≡ true → is_some_and is_le s ≡ true
      → is_some_and is_le (C x z) ≡ true
  le_by x y z None s p q h k = absurd (false≢true h)
  le_by x y z (Some Greater) s p q h k = absurd (false≢true h)
  le_by x y z (Some Equal) s p q h k = ap (is_some_and is_le) (o.congr x y z ((o.matches_eq x y).1 p) ∙ q) ∙ k
  le_by x y z (Some Less) None p q h k = absurd (false≢true k)
  le_by x y z (Some Less) (Some Less) p q h k = ap (is_some_and is_le) (o.trans x y z p q)
  le_by x y z (Some Less) (Some Equal) p q h k = ap (is_some_and is_le) (sym (po_right o y z x ((o.matches_eq y z).1 q)) ∙ p)
  le_by x y z (Some Less) (Some Greater) p q h k = absurd (false≢true k)

  le_chain : (x y z : X) → is_some_and is_le (C x y) ≡ true → is_some_and is_le (C y z) ≡ true → is_some_and is_le (C x z) ≡ true
  le_chain x y z = le_by x y z (C x y) (C y z) refl refl

  turned : (r : Option Ordering) → is_some_and is_ge (option_map ordering_reverse r) ≡ is_some_and is_le r
  turned None = refl
  turned (Some Less) = refl
  turned (Some Equal) = refl
  turned (Some Greater) = refl

  ge_is : (x y : X) → is_some_and is_ge (C x y) ≡ is_some_and is_le (C y x)
  ge_is x y = ap (is_some_and is_ge) (o.antisymm x y) ∙ turned (C y x)

  ge_chain : (x y z : X) → is_some_and is_ge (C x y) ≡ true → is_some_and is_ge (C y z) ≡ true → is_some_and is_ge (C x z) ≡ true
  ge_chain x y z h k = ge_is x z ∙ le_chain z y x (sym (ge_is y z) ∙ k) (sym (ge_is x y) ∙ h)

-- the same of values that may be missing
module _ {X : Type 0} (C : X → X → Option Ordering) (side : Ordering → Bool)
    (chain : (x y z : X) → is_some_and side (C x y) ≡ true → is_some_and side (C y z) ≡ true → is_some_and side (C x z) ≡ true) where
  pub read_chain : (a b c : Option X) → is_some_and side (option_and_then (λ x. option_and_then (C x) b) a) ≡ true
      → is_some_and side (option_and_then (λ x. option_and_then (C x) c) b) ≡ true
      → is_some_and side (option_and_then (λ x. option_and_then (C x) c) a) ≡ true
  read_chain None b c h k = absurd (false≢true h)
  read_chain (Some x) None c h k = absurd (false≢true h)
  read_chain (Some x) (Some y) None h k = absurd (false≢true k)
  read_chain (Some x) (Some y) (Some z) h k = chain x y z h k

  total_chain : (R : X → X → Ordering) → ((x y : X) → C x y ≡ Some (R x y))
      → (a b c : Option X) → is_some_and side (option_and_then (λ x. option_map (R x) b) a) ≡ true
      → is_some_and side (option_and_then (λ x. option_map (R x) c) b) ≡ true
      → is_some_and side (option_and_then (λ x. option_map (R x) c) a) ≡ true
  total_chain R same None b c h k = absurd (false≢true h)
  total_chain R same (Some x) None c h k = absurd (false≢true h)
  total_chain R same (Some x) (Some y) None h k = absurd (false≢true k)
  total_chain R same (Some x) (Some y) (Some z) h k =
      sym (ap (is_some_and side) (same x z))
      ∙ chain x y z (ap (is_some_and side) (same x y) ∙ h) (ap (is_some_and side) (same y z) ∙ k)

-- ---- of values in trees

pub record Chained (side : Ordering → Bool) : Type 0 where
  pub chain : (scale : Scale) (a b c : Tree) → is_beyond side scale a b ≡ true → is_beyond side scale b c ≡ true → is_beyond side scale a c ≡ true

module _ (values : IsTotalOrder value_order) (moments : IsPartialOrder is_same_moment moment_order) where
  value_partial : IsPartialOrder (eq_by_cmp value_order) (λ x y. Some (value_order x y))
  value_partial = po values (λ x y. refl)

  le_at : (scale : Scale) (a b c : Tree) → is_beyond is_le scale a b ≡ true → is_beyond is_le scale b c ≡ true → is_beyond is_le scale a c ≡ true
  le_at Number a b c =
      total_chain (λ x y. Some (value_order x y)) is_le (le_chain value_partial) value_order (λ x y. refl) (number_in a) (number_in b) (number_in c)
  le_at Moment a b c = read_chain moment_order is_le (le_chain moments) (fields_in a) (fields_in b) (fields_in c)
  le_at Time a b c = read_chain moment_order is_le (le_chain moments) (fields_in a) (fields_in b) (fields_in c)

  ge_at : (scale : Scale) (a b c : Tree) → is_beyond is_ge scale a b ≡ true → is_beyond is_ge scale b c ≡ true → is_beyond is_ge scale a c ≡ true
  ge_at Number a b c =
      total_chain (λ x y. Some (value_order x y)) is_ge (ge_chain value_partial) value_order (λ x y. refl) (number_in a) (number_in b) (number_in c)
  ge_at Moment a b c = read_chain moment_order is_ge (ge_chain moments) (fields_in a) (fields_in b) (fields_in c)
  ge_at Time a b c = read_chain moment_order is_ge (ge_chain moments) (fields_in a) (fields_in b) (fields_in c)

  pub le_chained : Chained is_le
  le_chained = record { chain = le_at }

  pub ge_chained : Chained is_ge
  ge_chained = record { chain = ge_at }
