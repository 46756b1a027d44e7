-- Days of the calendar, their numbers, and the one after and the one before.
use Rattle.std.proofs.Common.{◌≡◌, ℕ, suc, ◌+◌, ◌-◌, ◌≤◌, refl, ap, ap₂, arith, Bool, true, false, ◌&&◌, ◌==◌, nat_le, nat_lt}
use Rattle.std.specs.Prelude.{if◌then◌else◌}
use Rattle.std.proofs.lemmas.Bool.{and_parts, leb-true, le-leb, ltb-true, ltb-false}
use Rattle.fhir_prims.specs.declared.calendar.Day.{Day}
use Rattle.fhir_prims.specs.Moments.{is_leap, is_short_month, days_in, is_month, is_in_calendar}
use Rattle.fhir_prims.specs.Calendar.{is_day, day_after, day_before, days_of_months, days_of_years, day_number}

pub day_parts : (d : Day) → is_day d ≡ true → (1 ≤ d.month) × (d.month ≤ 12) × (1 ≤ d.day) × (d.day ≤ days_in d.year d.month)
day_parts d is =
    let most = and_parts (is_month d.month && nat_le 1 d.day) (nat_le d.day (days_in d.year d.month)) is in
    let least = and_parts (is_month d.month) (nat_le 1 d.day) most.0 in
    let month = and_parts (nat_le 1 d.month) (nat_le d.month 12) least.0 in
    (leb-true 1 d.month month.0, leb-true d.month 12 month.1, leb-true 1 d.day least.1, leb-true d.day (days_in d.year d.month) most.1)

pub month_next : (y i : ℕ) → days_of_months y (suc i) ≡ days_of_months y i + days_in y (suc i)
unfolding days_of_months
month_next y i = refl

pub year_next : (i : ℕ) → days_of_years (suc i) ≡ days_of_years i + days_of_months i 12
unfolding days_of_years
year_next i = refl

pub day_from : (y m d : ℕ) → 1 ≤ m → m ≤ 12 → 1 ≤ d → d ≤ days_in y m → is_in_calendar y m d ≡ true
day_from y m d low high first last =
    ap₂ ◌&&◌ (ap₂ ◌&&◌ (ap₂ ◌&&◌ (le-leb 1 m low) (le-leb m 12 high)) (le-leb 1 d first)) (le-leb d (days_in y m) last)

long_enough : (leap feb short : Bool) → 28 ≤ (if feb then (if leap then 29 else 28) else (if short then 30 else 31))
long_enough true true short = omega arith
long_enough false true short = omega arith
long_enough leap false true = omega arith
long_enough leap false false = omega arith

month_length : (y m : ℕ) → 28 ≤ days_in y m
month_length y m = long_enough (is_leap y) (m == 2) (is_short_month m)

-- ---- the day after

after_by : (d : Day) (a b : Bool) → nat_lt d.day (days_in d.year d.month) ≡ a → nat_lt d.month 12 ≡ b → is_day d ≡ true
    → day_number
    (if a then record { year = d.year; month = d.month; day = d.day + 1 } else
    (if b then record { year = d.year; month = d.month + 1; day = 1 } else record { year = d.year + 1; month = 1; day = 1 }))
    ≡ suc (day_number d)
unfolding days_of_months
after_by d true b p q is =
    let parts = day_parts d is in
    let first = parts.2 in
    omega arith
after_by d false true p q is =
    let parts = day_parts d is in
    let low = parts.0 in
    let first = parts.2 in
    let last = parts.3 in
    let more = ltb-false d.day (days_in d.year d.month) p in
    let month : suc (d.month - 1) ≡ d.month = omega arith in
    let before : d.month + 1 - 1 ≡ suc (d.month - 1) = omega arith in
    let all : days_of_months d.year (d.month + 1 - 1) ≡ days_of_months d.year (suc (d.month - 1)) = ap (days_of_months d.year) before in
    let next = month_next d.year (d.month - 1) in
    let length : days_in d.year (suc (d.month - 1)) ≡ days_in d.year d.month = ap (days_in d.year) month in
    omega arith
after_by d false false p q is =
    let parts = day_parts d is in
    let high = parts.1 in
    let first = parts.2 in
    let last = parts.3 in
    let more = ltb-false d.day (days_in d.year d.month) p in
    let most = ltb-false d.month 12 q in
    let month : d.month ≡ 12 = omega arith in
    let before : d.month - 1 ≡ 11 = omega arith in
    let one : d.year + 1 ≡ suc d.year = omega arith in
    let years : days_of_years (d.year + 1) ≡ days_of_years (suc d.year) = ap days_of_years one in
    let year = year_next d.year in
    let next = month_next d.year 11 in
    let months : days_of_months d.year (d.month - 1) ≡ days_of_months d.year 11 = ap (days_of_months d.year) before in
    let length : days_in d.year d.month ≡ days_in d.year 12 = ap (days_in d.year) month in
    let start : days_of_months (d.year + 1) (1 - 1) ≡ 0 = refl in
    omega arith

pub number_after : (d : Day) → is_day d ≡ true → day_number (day_after d) ≡ suc (day_number d)
number_after d is = after_by d (nat_lt d.day (days_in d.year d.month)) (nat_lt d.month 12) refl refl is

after_exists : (d : Day) (a b : Bool) → nat_lt d.day (days_in d.year d.month) ≡ a → nat_lt d.month 12 ≡ b → is_day d ≡ true
    → is_day
    (if a then record { year = d.year; month = d.month; day = d.day + 1 } else
    (if b then record { year = d.year; month = d.month + 1; day = 1 } else record { year = d.year + 1; month = 1; day = 1 }))
    ≡ true
after_exists d true b p q is =
    let parts = day_parts d is in
    let less = ltb-true d.day (days_in d.year d.month) p in
    day_from d.year d.month (d.day + 1) parts.0 parts.1 (omega arith) (omega arith)
after_exists d false true p q is =
    let parts = day_parts d is in
    let low = parts.0 in
    let less = ltb-true d.month 12 q in
    let long = month_length d.year (d.month + 1) in
    day_from d.year (d.month + 1) 1 (omega arith) (omega arith) (omega arith) (omega arith)
after_exists d false false p q is =
    let long = month_length (d.year + 1) 1 in
    day_from (d.year + 1) 1 1 (omega arith) (omega arith) (omega arith) (omega arith)

pub day_after_exists : (d : Day) → is_day d ≡ true → is_day (day_after d) ≡ true
day_after_exists d is = after_exists d (nat_lt d.day (days_in d.year d.month)) (nat_lt d.month 12) refl refl is

-- ---- the day before

before_by : (d : Day) (a b : Bool) → nat_lt 1 d.day ≡ a → nat_lt 1 d.month ≡ b → 1 ≤ d.year → is_day d ≡ true
    → suc
    (day_number
    (if a then record { year = d.year; month = d.month; day = d.day - 1 } else
    (if b then record { year = d.year; month = d.month - 1; day = days_in d.year (d.month - 1) } else record { year = d.year - 1; month = 12; day = 31 })))
    ≡ day_number d
unfolding days_of_months
before_by d true b p q late is =
    let less = ltb-true 1 d.day p in
    omega arith
before_by d false true p q late is =
    let parts = day_parts d is in
    let first = parts.2 in
    let one = ltb-false 1 d.day p in
    let less = ltb-true 1 d.month q in
    let before : suc (d.month - 1 - 1) ≡ d.month - 1 = omega arith in
    let next = month_next d.year (d.month - 1 - 1) in
    let months : days_of_months d.year (suc (d.month - 1 - 1)) ≡ days_of_months d.year (d.month - 1) = ap (days_of_months d.year) before in
    let length : days_in d.year (suc (d.month - 1 - 1)) ≡ days_in d.year (d.month - 1) = ap (days_in d.year) before in
    let long = month_length d.year (d.month - 1) in
    omega arith
before_by d false false p q late is =
    let parts = day_parts d is in
    let low = parts.0 in
    let first = parts.2 in
    let one = ltb-false 1 d.day p in
    let january = ltb-false 1 d.month q in
    let start : d.month - 1 ≡ 0 = omega arith in
    let none : days_of_months d.year (d.month - 1) ≡ 0 = ap (days_of_months d.year) start in
    let before : suc (d.year - 1) ≡ d.year = omega arith in
    let year = year_next (d.year - 1) in
    let years : days_of_years (suc (d.year - 1)) ≡ days_of_years d.year = ap days_of_years before in
    let next = month_next (d.year - 1) 11 in
    let december : days_in (d.year - 1) 12 ≡ 31 = refl in
    omega arith

pub number_before : (d : Day) → 1 ≤ d.year → is_day d ≡ true → suc (day_number (day_before d)) ≡ day_number d
number_before d late is = before_by d (nat_lt 1 d.day) (nat_lt 1 d.month) refl refl late is

before_exists : (d : Day) (a b : Bool) → nat_lt 1 d.day ≡ a → nat_lt 1 d.month ≡ b → is_day d ≡ true
    → is_day
    (if a then record { year = d.year; month = d.month; day = d.day - 1 } else
    (if b then record { year = d.year; month = d.month - 1; day = days_in d.year (d.month - 1) } else record { year = d.year - 1; month = 12; day = 31 }))
    ≡ true
before_exists d true b p q is =
    let parts = day_parts d is in
    let last = parts.3 in
    let less = ltb-true 1 d.day p in
    day_from d.year d.month (d.day - 1) parts.0 parts.1 (omega arith) (omega arith)
before_exists d false true p q is =
    let parts = day_parts d is in
    let high = parts.1 in
    let less = ltb-true 1 d.month q in
    let long = month_length d.year (d.month - 1) in
    day_from d.year (d.month - 1) (days_in d.year (d.month - 1)) (omega arith) (omega arith) (omega arith) (omega arith)
before_exists d false false p q is = refl

pub day_before_exists : (d : Day) → is_day d ≡ true → is_day (day_before d) ≡ true
day_before_exists d is = before_exists d (nat_lt 1 d.day) (nat_lt 1 d.month) refl refl is
