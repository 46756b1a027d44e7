-- The texts of date, dateTime, instant and time (FHIR R4, Data Types).
use Rattle.std.specs.Prelude.{ℕ, ◌+◌, ◌*◌, ◌%◌, [], ◌∷◌, Bool, true, not, ◌&&◌, ◌||◌, ◌==◌, nat_le, codes, if◌then◌else◌}
use Rattle.fhir_json.specs.Tree.{Text}
use Rattle.fhir_json.specs.Bytes.{dot, letter_T, is_empty}
use Rattle.fhir_decimal.specs.Text.{are_digits}
use Rattle.fhir_prims.specs.Shapes.{has_shape, pair_at}
use Rattle.fhir_prims.specs.Cut.{TimeParts, MomentParts, cut_time, cut_moment}

-- ---- days

-- every fourth year, but of the centuries only every fourth
abbrev pub is_leap : ℕ → Bool
is_leap year = (year % 4 == 0) && (not (year % 100 == 0) || (year % 400 == 0))

abbrev pub is_short_month : ℕ → Bool
is_short_month month = (month == 4) || (month == 6) || (month == 9) || (month == 11)

abbrev pub days_in : ℕ → ℕ → ℕ
days_in year month =
    if month == 2 then (if is_leap year then 29 else 28) else (if is_short_month month then 30 else 31)

abbrev pub is_month : ℕ → Bool
is_month month = nat_le 1 month && nat_le month 12

abbrev pub year_of : Text → ℕ
year_of s = 100 * pair_at s 0 + pair_at s 2

-- YYYY, from 0001
abbrev pub is_year_text : Text → Bool
is_year_text s = has_shape (codes "0000") s && nat_le 1 (year_of s)

-- YYYY-MM
abbrev pub is_month_text : Text → Bool
is_month_text s = has_shape (codes "0000-00") s && nat_le 1 (year_of s) && is_month (pair_at s 5)

-- the year has this month, and the month this day
abbrev pub is_in_calendar : ℕ → ℕ → ℕ → Bool
is_in_calendar year month day = is_month month && nat_le 1 day && nat_le day (days_in year month)

-- that, from the year 1 to 9999
abbrev pub has_day : ℕ → ℕ → ℕ → Bool
has_day year month day = nat_le 1 year && nat_le year 9999 && is_in_calendar year month day

-- YYYY-MM-DD
abbrev pub is_day_text : Text → Bool
is_day_text s = has_shape (codes "0000-00-00") s && has_day (year_of s) (pair_at s 5) (pair_at s 8)

-- a year, a month or a day
abbrev pub is_date : Text → Bool
is_date s = is_year_text s || is_month_text s || is_day_text s

-- ---- times

abbrev pub is_time_of_day : ℕ → ℕ → ℕ → Bool
is_time_of_day hour minute second = nat_le hour 23 && nat_le minute 59 && nat_le second 60

-- hh:mm:ss, to 23:59:60
abbrev pub is_clock : Text → Bool
is_clock s = has_shape (codes "00:00:00") s && is_time_of_day (pair_at s 0) (pair_at s 3) (pair_at s 6)

-- `(\.[0-9]+)?`
abbrev pub is_fraction : Text → Bool
is_fraction [] = true
is_fraction (b ∷ bs) = (b == dot) && are_digits bs

-- `+` or `-`, and hh:mm
abbrev pub is_offset_form : Text → Bool
is_offset_form s = has_shape (codes "+00:00") s || has_shape (codes "-00:00") s

-- to 13:59, or 14:00
abbrev pub is_offset_size : ℕ → ℕ → Bool
is_offset_size hours minutes = (nat_le hours 13 && nat_le minutes 59) || ((hours == 14) && (minutes == 0))

-- `Z`, or an offset
abbrev pub is_zone : Text → Bool
is_zone s = has_shape (codes "Z") s || (is_offset_form s && is_offset_size (pair_at s 1) (pair_at s 4))

-- a clock and a fraction
abbrev pub has_clock : TimeParts → Bool
has_clock t = is_clock t.clock && is_fraction t.fraction

-- that, and no zone
abbrev pub is_time : Text → Bool
is_time s = has_clock (cut_time s) && is_empty (cut_time s).zone

-- a day, `T`, a clock and a fraction, and a zone
abbrev pub is_moment : MomentParts → Bool
is_moment p = is_day_text p.day && (p.mark == letter_T) && has_clock p.time && is_zone p.time.zone

abbrev pub is_instant : Text → Bool
is_instant s = is_moment (cut_moment s)

-- a date, or an instant
abbrev pub is_date_time : Text → Bool
is_date_time s = is_date s || is_instant s
