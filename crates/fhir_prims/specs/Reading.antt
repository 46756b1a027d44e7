-- What the text of a date, a moment or a time of day says (FHIR R4, Data Types, date, dateTime, instant, time).
use Rattle.std.specs.Prelude.{ℕ, ◌%◌, ◌/◌, Option, Some, None, if◌then◌else◌}
use Rattle.fhir_json.specs.Tree.{Text}
use Rattle.fhir_decimal.specs.Value.{Value}
use Rattle.fhir_prims.specs.declared.calendar.Day.{Day}
use Rattle.fhir_prims.specs.Shapes.{pair_at}
use Rattle.fhir_prims.specs.Cut.{TimeParts, MomentParts, cut_time, cut_moment}
use Rattle.fhir_prims.specs.Moments.{year_of, is_year_text, is_month_text, is_day_text, is_instant, is_time}
use Rattle.fhir_prims.specs.Order.{Fields}
use Rattle.fhir_prims.specs.Utc.{day_at, minutes_at, second_of, utc_minutes, day_of_minutes}

abbrev pub date_fields : Option ℕ → Option ℕ → Option ℕ → Fields
date_fields year month day = record { year = year; month = month; day = day; hour = None; minute = None; second = None }

abbrev pub year_fields : Text → Fields
year_fields s = date_fields (Some (year_of s)) None None

abbrev pub month_fields : Text → Fields
month_fields s = date_fields (Some (year_of s)) (Some (pair_at s 5)) None

abbrev pub day_fields : Text → Fields
day_fields s = date_fields (Some (year_of s)) (Some (pair_at s 5)) (Some (pair_at s 8))

-- the minutes are those from the start of the day
abbrev pub moment_fields : Day → ℕ → Value → Fields
moment_fields day minutes second = record {
  year = Some day.year;
  month = Some day.month;
  day = Some day.day;
  hour = Some (minutes / 60);
  minute = Some (minutes % 60);
  second = Some second;
}

abbrev pub time_fields : TimeParts → Fields
time_fields t = record {
  year = None;
  month = None;
  day = None;
  hour = Some (pair_at t.clock 0);
  minute = Some (pair_at t.clock 3);
  second = Some (second_of t);
}

-- the minutes in UTC, from the start of the day before
abbrev pub minutes_of : TimeParts → ℕ
minutes_of t = utc_minutes t.zone (minutes_at t.clock 0)

-- the day in UTC
abbrev pub day_of : MomentParts → Day
day_of p = day_of_minutes (minutes_of p.time) (day_at p.day)

-- the moment in UTC
abbrev pub instant_fields : MomentParts → Fields
instant_fields p = moment_fields (day_of p) (minutes_of p.time % 1440) (second_of p.time)

-- what a text says, if it is the text of one
abbrev pub fields_of : Text → Option Fields
fields_of s =
    if is_year_text s then Some (year_fields s)
    else (if is_month_text s then Some (month_fields s)
    else (if is_day_text s then Some (day_fields s)
    else (if is_instant s then Some (instant_fields (cut_moment s))
    else (if is_time s then Some (time_fields (cut_time s)) else None))))
