-- How dates, moments and times of day are written, and what they say (FHIR R4, Data Types, date, dateTime, instant, time).
use Rattle.std.specs.Prelude.{◌≡◌, ℕ, ◌+◌, ◌*◌, ◌/◌, ◌%◌, ◌<◌, [], ◌∷◌, ◌++◌, Bool, true, false, ◌&&◌, nat_le, Some, None, codes, IsTrue}
use Rattle.std.specs.Char.{is_ascii_digit}
use Rattle.std.specs.List.{list_all}
use Rattle.fhir_json.specs.Tree.{Text}
use Rattle.fhir_json.specs.Bytes.{digit_zero}
use Rattle.fhir_decimal.specs.Text.{unsigned_parts}
use Rattle.fhir_decimal.specs.Value.{Value, value_of}
use Rattle.fhir_prims.specs.declared.calendar.Day.{Day}
use Rattle.fhir_prims.specs.Calendar.{is_day, minutes_since}
use Rattle.fhir_prims.specs.Order.{Fields}

-- ---- what is written

-- a time of day. The fraction is the digits behind the point, or none
pub record Clock : Type 0 where
  pub hour : ℕ
  pub minute : ℕ
  pub second : ℕ
  pub fraction : Text

-- UTC, or hours and minutes ahead of it or behind it
pub data Zone : Type 0 where
  utc : Zone
  ahead : ℕ → ℕ → Zone
  behind : ℕ → ℕ → Zone

-- a year; a year and a month; a day; a day, a time and a zone; a time
pub data Written : Type 0 where
  year : ℕ → Written
  month : ℕ → ℕ → Written
  day : Day → Written
  moment : Day → Clock → Zone → Written
  time : Clock → Written

-- a year, a month or a day; a moment with a time; a time of day
abbrev pub is_written_date : Written → Bool
is_written_date (year y) = true
is_written_date (month y m) = true
is_written_date (day d) = true
is_written_date _ = false

abbrev pub is_written_moment : Written → Bool
is_written_moment (moment d c z) = true
is_written_moment _ = false

abbrev pub is_written_time : Written → Bool
is_written_time (time c) = true
is_written_time _ = false

-- ---- how

abbrev pub two_digits : ℕ → Text
two_digits n = (digit_zero + n / 10) ∷ ((digit_zero + n % 10) ∷ [])

abbrev pub four_digits : ℕ → Text
four_digits n = two_digits (n / 100) ++ two_digits (n % 100)

-- YYYY-MM-DD
abbrev pub day_text : Day → Text
day_text d = four_digits d.year ++ (codes "-" ++ (two_digits d.month ++ (codes "-" ++ two_digits d.day)))

-- hh:mm
abbrev pub minute_text : ℕ → ℕ → Text
minute_text hour minute = two_digits hour ++ (codes ":" ++ two_digits minute)

abbrev pub fraction_text : Text → Text
fraction_text [] = []
fraction_text (b ∷ bs) = codes "." ++ (b ∷ bs)

-- hh:mm:ss and a fraction
abbrev pub clock_text : Clock → Text
clock_text c = minute_text c.hour c.minute ++ (codes ":" ++ (two_digits c.second ++ fraction_text c.fraction))

abbrev pub zone_text : Zone → Text
zone_text utc = codes "Z"
zone_text (ahead hours minutes) = codes "+" ++ minute_text hours minutes
zone_text (behind hours minutes) = codes "-" ++ minute_text hours minutes

abbrev pub text_of : Written → Text
text_of (year y) = four_digits y
text_of (month y m) = four_digits y ++ (codes "-" ++ two_digits m)
text_of (day d) = day_text d
text_of (moment d c z) = day_text d ++ (codes "T" ++ (clock_text c ++ zone_text z))
text_of (time c) = clock_text c

-- ---- which may be

abbrev pub is_year : ℕ → Bool
is_year y = nat_le 1 y && nat_le y 9999

-- a day of the calendar
abbrev pub is_possible_day : Day → Bool
is_possible_day d = is_year d.year && is_day d

-- to 23:59:60
abbrev pub is_possible_clock : Clock → Bool
is_possible_clock c = nat_le c.hour 23 && nat_le c.minute 59 && nat_le c.second 60 && list_all is_ascii_digit c.fraction

-- to 14:00
abbrev pub is_offset : ℕ → ℕ → Bool
is_offset hours minutes = nat_le minutes 59 && nat_le (60 * hours + minutes) 840

abbrev pub is_possible_zone : Zone → Bool
is_possible_zone utc = true
is_possible_zone (ahead hours minutes) = is_offset hours minutes
is_possible_zone (behind hours minutes) = is_offset hours minutes

abbrev pub is_possible : Written → Bool
is_possible (year y) = is_year y
is_possible (month y m) = is_year y && (nat_le 1 m && nat_le m 12)
is_possible (day d) = is_possible_day d
is_possible (moment d c z) = is_possible_day d && is_possible_clock c && is_possible_zone z
is_possible (time c) = is_possible_clock c

-- ---- what it says

-- the second, with its fraction
abbrev pub second_in : Clock → Value
second_in c = value_of (unsigned_parts (two_digits c.second) c.fraction)

-- where it is so many minutes in UTC, the clocks of a zone show so many
abbrev pub Shows : Zone → ℕ → ℕ → Type 0
Shows utc minutes shown = shown ≡ minutes
Shows (ahead hours more) minutes shown = shown ≡ minutes + (60 * hours + more)
Shows (behind hours less) minutes shown = shown + (60 * hours + less) ≡ minutes

abbrev pub full_fields : Day → ℕ → ℕ → Value → Fields
full_fields d hour minute second = record {
  year = Some d.year;
  month = Some d.month;
  day = Some d.day;
  hour = Some hour;
  minute = Some minute;
  second = Some second;
}

-- the fields are those of the moment in UTC: of a day of the calendar, and a minute of it
pub record SaysMoment (d : Day) (c : Clock) (z : Zone) (f : Fields) : Type 0 where
  pub day : Day
  pub hour : ℕ
  pub minute : ℕ
  pub is_day : IsTrue (is_day day)
  pub is_hour : hour < 24
  pub is_minute : minute < 60
  pub fields : f ≡ full_fields day hour minute (second_in c)
  pub shows : Shows z (minutes_since day (60 * hour + minute)) (minutes_since d (60 * c.hour + c.minute))

abbrev pub Says : Written → Fields → Type 0
Says (year y) f = f ≡ record { year = Some y; month = None; day = None; hour = None; minute = None; second = None }
Says (month y m) f = f ≡ record { year = Some y; month = Some m; day = None; hour = None; minute = None; second = None }
Says (day d) f = f ≡ record { year = Some d.year; month = Some d.month; day = Some d.day; hour = None; minute = None; second = None }
Says (moment d c z) f = SaysMoment d c z f
Says (time c) f = f ≡ record { year = None; month = None; day = None; hour = Some c.hour; minute = Some c.minute; second = Some (second_in c) }

-- the fields are what a text says
pub record IsSaid (s : Text) (f : Fields) : Type 0 where
  pub written : Written
  pub possible : IsTrue (is_possible written)
  pub text : text_of written ≡ s
  pub says : Says written f
