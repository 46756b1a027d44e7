-- Days of the calendar, in the order in which they follow one another (FHIR R4, Data Types, date).
use Rattle.std.specs.Prelude.{ℕ, zero, suc, ◌+◌, ◌-◌, ◌*◌, Bool, nat_lt, if◌then◌else◌}
use Rattle.fhir_prims.specs.declared.calendar.Day.{Day}
use Rattle.fhir_prims.specs.Moments.{days_in, is_in_calendar}

abbrev pub is_day : Day → Bool
is_day d = is_in_calendar d.year d.month d.day

-- the next in the month, or the first of the next month, or of the next year
abbrev pub day_after : Day → Day
day_after d =
    if nat_lt d.day (days_in d.year d.month) then record { year = d.year; month = d.month; day = d.day + 1 }
    else (if nat_lt d.month 12 then record { year = d.year; month = d.month + 1; day = 1 }
    else record { year = d.year + 1; month = 1; day = 1 })

-- the one before in the month, or the last of the month before, or of the year before
abbrev pub day_before : Day → Day
day_before d =
    if nat_lt 1 d.day then record { year = d.year; month = d.month; day = d.day - 1 }
    else (if nat_lt 1 d.month then record { year = d.year; month = d.month - 1; day = days_in d.year (d.month - 1) }
    else record { year = d.year - 1; month = 12; day = 31 })

-- ---- counted

-- the days of the first months of a year
unfoldable pub days_of_months : ℕ → ℕ → ℕ
days_of_months year zero = 0
days_of_months year (suc m) = days_of_months year m + days_in year (suc m)

-- the days of the first years, from the year 0 on
unfoldable pub days_of_years : ℕ → ℕ
days_of_years zero = 0
days_of_years (suc y) = days_of_years y + days_of_months y 12

-- the days from the first of the year 0 to a day
abbrev pub day_number : Day → ℕ
day_number d = days_of_years d.year + days_of_months d.year (d.month - 1) + (d.day - 1)

-- the minutes from the first of the year 0 to a minute of a day
abbrev pub minutes_since : Day → ℕ → ℕ
minutes_since d minutes = 1440 * day_number d + minutes
