-- Dates, moments and times of day that have no order.
use Rattle.std.proofs.Common.{◌≡◌, ◌∙◌, ap, ap₂, refl, sym, ℕ, false, true≢false, Some, None}
use Rattle.std.specs.declared.cmp.Ordering.TheVariants.{Equal}
use Rattle.std.specs.Ordering.{nat_cmp, partial_ordering_then}
use Rattle.std.specs.Cmp.{nat_cmp_is}
use Rattle.fhir_decimal.specs.Value.{Value}
use Rattle.fhir_prims.specs.declared.calendar.Day.{Day}
use Rattle.fhir_prims.specs.Order.{Fields, moment_order}
use Rattle.fhir_prims.specs.Written.{Clock, Written, year, month, day, moment, time, is_written_time, full_fields, Says}

tied : (n : ℕ) → nat_cmp n n ≡ Equal
tied n = sym (nat_cmp_is n n Equal refl)

pub year_open : (y m : ℕ) (a b : Fields) → Says (year y) a → Says (month y m) b → moment_order a b ≡ None
year_open y m a b p q = ap₂ moment_order p q ∙ ap (λ o. partial_ordering_then (Some o) None) (tied y)

pub month_open : (d : Day) (a b : Fields) → Says (month d.year d.month) a → Says (day d) b → moment_order a b ≡ None
month_open d a b p q =
    ap₂ moment_order p q ∙ ap₂ (λ y m. partial_ordering_then (Some y) (partial_ordering_then (Some m) None)) (tied d.year) (tied d.month)

pub day_open : (d : Day) (h m : ℕ) (v : Value) (a : Fields) → Says (day d) a → moment_order a (full_fields d h m v) ≡ None
day_open d h m v a p =
    ap (λ f. moment_order f (full_fields d h m v)) p
    ∙ ap₂ (λ y m. partial_ordering_then (Some y) (partial_ordering_then (Some m) (partial_ordering_then (Some (nat_cmp d.day d.day)) None)))
    (tied d.year) (tied d.month)
    ∙ ap (λ e. partial_ordering_then (Some e) None) (tied d.day)

pub times_apart : (w : Written) (c : Clock) (a b : Fields) → is_written_time w ≡ false → Says w a → Says (time c) b → moment_order a b ≡ None
times_apart (year y) c a b other p q = ap₂ moment_order p q
times_apart (month y m) c a b other p q = ap₂ moment_order p q
times_apart (day d) c a b other p q = ap₂ moment_order p q
times_apart (moment d e z) c a b other p q = ap₂ moment_order p.fields q
times_apart (time e) c a b other p q = absurd (true≢false other)
