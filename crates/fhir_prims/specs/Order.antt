-- Dates, moments and times of day as their fields, and the order of them (FHIR R4, Data Types, date, dateTime, instant,
-- time; FHIRPath N1, Comparison).
use Rattle.std.specs.Prelude.{ℕ, Bool, Option, Some, None}
use Rattle.std.specs.declared.cmp.Ordering.{Ordering}
use Rattle.std.specs.declared.cmp.Ordering.TheVariants.{Equal}
use Rattle.std.specs.Ordering.{nat_cmp, partial_ordering_then, is_some_and, is_eq}
use Rattle.fhir_decimal.specs.Value.{Value, value_order}

-- the fields that are given. A second has its exact fraction
pub record Fields : Type 0 where
  pub year : Option ℕ
  pub month : Option ℕ
  pub day : Option ℕ
  pub hour : Option ℕ
  pub minute : Option ℕ
  pub second : Option Value

-- one field. Where both lack it they are equal in it, and where one lacks it they have no order
abbrev pub field_order : {X : Type 0} → (X → X → Ordering) → Option X → Option X → Option Ordering
field_order R (Some x) (Some y) = Some (R x y)
field_order R (Some x) None = None
field_order R None (Some y) = None
field_order R None None = Some Equal

-- from the left, the first field in which they aren't equal decides
abbrev pub moment_order : Fields → Fields → Option Ordering
moment_order a b =
    partial_ordering_then (field_order nat_cmp a.year b.year)
    (partial_ordering_then (field_order nat_cmp a.month b.month)
    (partial_ordering_then (field_order nat_cmp a.day b.day)
    (partial_ordering_then (field_order nat_cmp a.hour b.hour)
    (partial_ordering_then (field_order nat_cmp a.minute b.minute)
    (field_order value_order a.second b.second)))))

-- the same moment
abbrev pub is_same_moment : Fields → Fields → Bool
is_same_moment a b = is_some_and is_eq (moment_order a b)
