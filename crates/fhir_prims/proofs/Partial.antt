-- The order of moments is a partial one.
use Rattle.std.proofs.Common.{◌≡◌, refl, sym, ap, Bool, true≢false, Option, Some, None}
use Rattle.std.proofs.lemmas.Cmp.{nat_cmp_total}
use Rattle.std.specs.declared.cmp.Ordering.{Ordering}
use Rattle.std.specs.declared.cmp.Ordering.TheVariants.{Less, Equal, Greater}
use Rattle.std.specs.Ordering.{ordering_reverse, is_eq, is_lt, is_some_and}
use Rattle.std.specs.Cmp.{IsPartialOrder, IsTotalOrder, then_po}
use Rattle.std.specs.Bool.{Decides}
use Rattle.std.specs.Option.{option_map, unwrap_or}
use Rattle.fhir_decimal.specs.Value.{value_order}
use Rattle.fhir_prims.specs.Order.{field_order, moment_order, is_same_moment}

is_equal : (c : Option Ordering) → Decides (is_some_and is_eq c) (c ≡ Some Equal)
is_equal None = (λ e. absurd (true≢false (sym e)), λ e. ap (is_some_and is_eq) e)
is_equal (Some Less) = (λ e. absurd (true≢false (sym e)), λ e. ap (is_some_and is_eq) e)
is_equal (Some Equal) = (λ e. refl, λ e. refl)
is_equal (Some Greater) = (λ e. absurd (true≢false (sym e)), λ e. ap (is_some_and is_eq) e)

inside : (r s : Ordering) → Some r ≡ Some s → r ≡ s
inside r s e = ap (λ p. unwrap_or p Equal) e

-- ---- a field

module _ {X : Type 0} {R : X → X → Ordering} (o : IsTotalOrder R) where
  turned : (a b : Option X) → field_order R a b ≡ option_map ordering_reverse (field_order R b a)
  turned (Some x) (Some y) = ap Some (o.antisymm x y)
  turned (Some x) None = refl
  turned None (Some y) = refl
  turned None None = refl

  chained : (a b c : Option X) → field_order R a b ≡ Some Less → field_order R b c ≡ Some Less → field_order R a c ≡ Some Less
  chained (Some x) (Some y) (Some z) p q = ap Some (o.trans x y z (inside (R x y) Less p) (inside (R y z) Less q))
  chained (Some x) (Some y) None p q = absurd (true≢false (sym (ap (is_some_and is_lt) q)))
  chained (Some x) None c p q = absurd (true≢false (sym (ap (is_some_and is_lt) p)))
  chained None (Some y) c p q = absurd (true≢false (sym (ap (is_some_and is_lt) p)))
  chained None None c p q = absurd (true≢false (sym (ap (is_some_and is_lt) p)))

  alike : (a b c : Option X) → field_order R a b ≡ Some Equal → field_order R a c ≡ field_order R b c
  alike (Some x) (Some y) (Some z) p = ap Some (o.congr x y z (inside (R x y) Equal p))
  alike (Some x) (Some y) None p = refl
  alike (Some x) None c p = absurd (true≢false (sym (ap (is_some_and is_eq) p)))
  alike None (Some y) c p = absurd (true≢false (sym (ap (is_some_and is_eq) p)))
  alike None None c p = refl

  pub field_po : IsPartialOrder (λ a b. is_some_and is_eq (field_order R a b)) (field_order R)
  field_po = record {
    antisymm = turned;
    trans = chained;
    matches_eq = λ a b. is_equal (field_order R a b);
    congr = λ a b c e. alike a b c ((is_equal (field_order R a b)).0 e);
  }

-- ---- all fields

module _ {K J : Type 0} {E : J → J → Bool} {C : J → J → Option Ordering} (o : IsPartialOrder E C) (f : K → J) where
  at_field : IsPartialOrder (λ a b. E (f a) (f b)) (λ a b. C (f a) (f b))
  at_field = record {
    antisymm = λ a b. o.antisymm (f a) (f b);
    trans = λ a b c. o.trans (f a) (f b) (f c);
    matches_eq = λ a b. o.matches_eq (f a) (f b);
    congr = λ a b c. o.congr (f a) (f b) (f c);
  }

module _ {K : Type 0} {E : K → K → Bool} {C : K → K → Option Ordering} (o : IsPartialOrder E C) where
  by_own_ties : IsPartialOrder (λ a b. is_some_and is_eq (C a b)) C
  by_own_ties = record {
    antisymm = o.antisymm;
    trans = o.trans;
    matches_eq = λ a b. is_equal (C a b);
    congr = λ a b c e. o.congr a b c ((o.matches_eq a b).1 ((is_equal (C a b)).0 e));
  }

pub moments_partial : IsTotalOrder value_order → IsPartialOrder is_same_moment moment_order
moments_partial values =
    let number = field_po nat_cmp_total in
    by_own_ties
    (then_po (at_field number (λ a. a.year))
    (then_po (at_field number (λ a. a.month))
    (then_po (at_field number (λ a. a.day))
    (then_po (at_field number (λ a. a.hour))
    (then_po (at_field number (λ a. a.minute)) (at_field (field_po values) (λ a. a.second)))))))
