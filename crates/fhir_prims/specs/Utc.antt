-- Clocks, and the move to UTC (FHIR R4, Data Types, dateTime and instant).
use Rattle.std.specs.Prelude.{ℕ, ◌+◌, ◌-◌, ◌*◌, slice_index, drop, Bool, ◌==◌, nat_lt, codes, if◌then◌else◌}
use Rattle.fhir_json.specs.Tree.{Text}
use Rattle.fhir_json.specs.Bytes.{minus}
use Rattle.fhir_decimal.specs.Text.{unsigned_parts}
use Rattle.fhir_decimal.specs.Value.{Value, value_of}
use Rattle.fhir_prims.specs.declared.calendar.Day.{Day}
use Rattle.fhir_prims.specs.Shapes.{has_shape, pair_at}
use Rattle.fhir_prims.specs.Cut.{TimeParts}
use Rattle.fhir_prims.specs.Moments.{year_of}
use Rattle.fhir_prims.specs.Calendar.{day_after, day_before}

-- ---- what stands in a text

-- YYYY-MM-DD
abbrev pub day_at : Text → Day
day_at s = record { year = year_of s; month = pair_at s 5; day = pair_at s 8 }

-- the minutes of hh:mm at a place
abbrev pub minutes_at : Text → ℕ → ℕ
minutes_at s place = 60 * pair_at s place + pair_at s (place + 3)

-- ss, and the digits behind the point of a fraction
abbrev pub second_of : TimeParts → Value
second_of t = value_of (unsigned_parts (drop 6 t.clock) (drop 1 t.fraction))

-- how many minutes a zone's clocks differ from UTC: none at `Z`, and hh:mm behind a sign
abbrev pub offset_of : Text → ℕ
offset_of zone = if has_shape (codes "Z") zone then 0 else minutes_at zone 1

-- they show less: the sign is `-`
abbrev pub is_behind : Text → Bool
is_behind zone = slice_index zone 0 == minus

-- ---- the move

-- the minutes in UTC from the start of the day before, where a clock shows so many minutes of its day
abbrev pub utc_minutes : Text → ℕ → ℕ
utc_minutes zone minutes = if is_behind zone then 1440 + minutes + offset_of zone else (1440 + minutes) - offset_of zone

-- the day on which minutes from the start of the day before fall
abbrev pub day_of_minutes : ℕ → Day → Day
day_of_minutes minutes day =
    if nat_lt minutes 1440 then day_before day else (if nat_lt minutes 2880 then day else day_after day)
