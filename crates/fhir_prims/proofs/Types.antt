-- Of which types a text is that is written so.
use Rattle.std.proofs.Common.{◌≡◌, ap, ap₂, refl, ℕ, ◌+◌, ◌%◌, ◌/◌, List, [], ◌++◌, Bool, true, false, ◌&&◌, ◌||◌, ◌==◌, arith}
use Rattle.std.specs.Prelude.{codes}
use Rattle.std.proofs.lemmas.Bool.{and_left, and_right, ne_eqb}
use Rattle.fhir_json.specs.Bytes.{is_empty}
use Rattle.fhir_prims.specs.declared.calendar.Day.{Day}
use Rattle.fhir_prims.specs.Shapes.{has_shape, pair_at}
use Rattle.fhir_prims.specs.Cut.{cut_time, cut_moment}
use Rattle.fhir_prims.specs.Moments.{is_year_text, is_month_text, is_day_text, is_date, is_time_of_day, is_clock, is_fraction, is_zone, has_clock, is_instant}
use Rattle.fhir_prims.specs.Moments.{is_date_time, is_time}
use Rattle.fhir_prims.specs.Written.{Written, year, month, day, moment, time, day_text, clock_text, zone_text, text_of, is_possible, is_written_date}
use Rattle.fhir_prims.specs.Written.{is_written_moment, is_written_time}
use Rattle.fhir_prims.proofs.Cuts.{day_is}
use Rattle.fhir_prims.proofs.Said.{year_form, month_form, longer, no_day_time, no_instant, time_form, moment_form}

-- what the tests say of a text
pub record IsOfTypes (s : List ℕ) (dates moments times : Bool) : Type 0 where
  pub date : is_date s ≡ dates
  pub instant : is_instant s ≡ moments
  pub time : is_time s ≡ times

third_digit : (x y rest : Bool) (n : ℕ) → (x && (y && ((48 + n % 100 / 10 == 58) && rest))) ≡ false
third_digit x y rest n =
    let digit = ne_eqb (48 + n % 100 / 10) 58 (λ e. omega arith) in
    and_right x (y && ((48 + n % 100 / 10 == 58) && rest)) (and_right y ((48 + n % 100 / 10 == 58) && rest) (and_left (48 + n % 100 / 10 == 58) rest digit))

-- the third byte of a day is a digit
no_time : (d : Day) (rest : List ℕ) → is_time (day_text d ++ rest) ≡ false
no_time d rest =
    let t = cut_time (day_text d ++ rest) in
    let shape : has_shape (codes "00:00:00") t.clock ≡ false = third_digit _ _ _ d.year in
    and_left (has_clock t) (is_empty t.zone)
    (and_left (is_clock t.clock) (is_fraction t.fraction)
    (and_left (has_shape (codes "00:00:00") t.clock) (is_time_of_day (pair_at t.clock 0) (pair_at t.clock 3) (pair_at t.clock 6)) shape))

-- nothing stands behind a day
no_mark : (d : Day) → is_instant (day_text d) ≡ false
no_mark d =
    let p = cut_moment (day_text d) in
    and_left (is_day_text p.day && (p.mark == 84) && has_clock p.time) (is_zone p.time.zone)
    (and_left (is_day_text p.day && (p.mark == 84)) (has_clock p.time) (and_right (is_day_text p.day) (p.mark == 84) refl))

pub types : (w : Written) → is_possible w ≡ true → IsOfTypes (text_of w) (is_written_date w) (is_written_moment w) (is_written_time w)
types (year y) is =
    let s = text_of (year y) in
    record { date = ap (λ b. b || is_month_text s || is_day_text s) (year_form y is).form; instant = refl; time = refl }
types (month y m) is =
    let s = text_of (month y m) in
    record { date = ap (λ b. is_year_text s || b || is_day_text s) (month_form y m is).form; instant = refl; time = refl }
types (day d) is =
    let s = text_of (day d) in
    record { date = ap (λ b. is_year_text s || is_month_text s || b) (day_is d is); instant = no_mark d; time = no_time d [] }
types (moment d c z) is =
    let s = text_of (moment d c z) in
    let other = longer s (omega arith) in
    let facts = moment_form d c z is in
    record {
      date = ap₂ ◌||◌ (ap₂ ◌||◌ other.no_year other.no_month) facts.no_day;
      instant = facts.form;
      time = no_time d (codes "T" ++ (clock_text c ++ zone_text z));
    }
types (time c) is =
    let s = text_of (time c) in
    let other = longer s (omega arith) in
    record { date = ap₂ ◌||◌ (ap₂ ◌||◌ other.no_year other.no_month) (no_day_time c); instant = no_instant c; time = time_form c is }

pub date_times : (w : Written) → is_possible w ≡ true → is_date_time (text_of w) ≡ (is_written_date w || is_written_moment w)
date_times w is =
    let of_types = types w is in
    ap₂ ◌||◌ of_types.date of_types.instant
