-- What the cut of a written time and a written moment gives, and that the parts pass the tests.
use Rattle.std.proofs.Common.{◌≡◌, ◌∙◌, ap, ap₂, refl, sym, ℕ, ◌+◌, ◌*◌, ◌%◌, ◌/◌, ◌≤◌, List, [], ◌∷◌, ◌++◌, length, take, drop, Bool, true, ◌&&◌, ◌==◌, nat_le}
use Rattle.std.proofs.Common.{one-add, arith, not}
use Rattle.std.specs.Prelude.{codes, if◌then◌else◌}
use Rattle.std.specs.List.{prefix_len, list_all}
use Rattle.std.proofs.Math.Seq.{take-append_seam, drop-append_seam}
use Rattle.std.proofs.lemmas.List.{append-nil}
use Rattle.std.proofs.lemmas.Bool.{and_parts, and_from, or_left, or_right, leb-true, cond-true}
use Rattle.fhir_prims.specs.declared.calendar.Day.{Day}
use Rattle.std.specs.Char.{is_ascii_digit}
use Rattle.fhir_json.specs.Bytes.{is_empty}
use Rattle.fhir_prims.specs.Shapes.{has_shape, pair_at}
use Rattle.fhir_prims.specs.Cut.{TimeParts, MomentParts, fraction_len, cut_time, cut_moment}
use Rattle.fhir_prims.specs.Moments.{is_leap, is_short_month, year_of, is_in_calendar, has_day, is_day_text, is_time_of_day, is_clock, is_fraction}
use Rattle.fhir_prims.specs.Moments.{is_offset_form, is_offset_size, is_zone, has_clock, is_moment}
use Rattle.fhir_prims.specs.Calendar.{is_day}
use Rattle.fhir_prims.specs.Utc.{day_at}
use Rattle.fhir_prims.specs.Written.{is_offset, Clock, Zone, utc, ahead, behind, day_text, fraction_text, clock_text, zone_text, is_possible_clock}
use Rattle.fhir_prims.specs.Written.{is_possible_zone}
use Rattle.fhir_prims.proofs.Days.{day_parts}
use Rattle.fhir_prims.proofs.Forms.{two_fit, hms_text}

-- ---- the cut

digits_stop : (ds z : List ℕ) → list_all is_ascii_digit ds ≡ true → prefix_len is_ascii_digit z ≡ 0 → prefix_len is_ascii_digit (ds ++ z) ≡ length ds
digits_stop [] z are none = none
digits_stop (d ∷ ds) z are none =
    let both = and_parts (is_ascii_digit d) (list_all is_ascii_digit ds) are in
    cond-true (is_ascii_digit d) (1 + prefix_len is_ascii_digit (ds ++ z)) 0 both.0 ∙ ap (λ k. 1 + k) (digits_stop ds z both.1 none) ∙ one-add (length ds)

-- no digit and no point stands first
pub record StopsFraction (z : List ℕ) : Type 0 where
  pub no_digit : prefix_len is_ascii_digit z ≡ 0
  pub no_point : fraction_len z ≡ 0

fraction_stop : (f z : List ℕ) → list_all is_ascii_digit f ≡ true → StopsFraction z → fraction_len (fraction_text f ++ z) ≡ length (fraction_text f)
fraction_stop [] z are stops = stops.no_point
fraction_stop (b ∷ bs) z are stops = ap (λ k. 1 + k) (digits_stop (b ∷ bs) z are stops.no_digit) ∙ one-add (length (b ∷ bs))

abbrev pub time_parts : Clock → List ℕ → TimeParts
time_parts c z = record { clock = hms_text c.hour c.minute c.second; fraction = fraction_text c.fraction; zone = z }

cut_written : (c : Clock) (z : List ℕ) → list_all is_ascii_digit c.fraction ≡ true → StopsFraction z → cut_time (clock_text c ++ z) ≡ time_parts c z
cut_written c z are stops =
    let f = fraction_text c.fraction in
    let clock = hms_text c.hour c.minute c.second in
    let cut : ℕ → TimeParts = λ n. record { clock = clock; fraction = take n (f ++ z); zone = drop n (f ++ z) } in
    let both : List ℕ → List ℕ → TimeParts = λ x y. record { clock = clock; fraction = x; zone = y } in
    ap cut (fraction_stop c.fraction z are stops) ∙ ap₂ both (take-append_seam f z) (drop-append_seam f z)

zone_stops : (z : Zone) → StopsFraction (zone_text z)
zone_stops utc = record { no_digit = refl; no_point = refl }
zone_stops (ahead h m) = record { no_digit = refl; no_point = refl }
zone_stops (behind h m) = record { no_digit = refl; no_point = refl }

pub time_cut : (c : Clock) → is_possible_clock c ≡ true → cut_time (clock_text c) ≡ time_parts c []
time_cut c is =
    ap cut_time (sym (append-nil (clock_text c)))
    ∙ cut_written c [] (and_parts (is_time_of_day c.hour c.minute c.second) (list_all is_ascii_digit c.fraction) is).1
    (record { no_digit = refl; no_point = refl })

abbrev pub moment_parts : Day → Clock → Zone → MomentParts
moment_parts d c z = record { day = day_text d; mark = 84; time = time_parts c (zone_text z) }

pub moment_cut : (d : Day) (c : Clock) (z : Zone) → is_possible_clock c ≡ true
    → cut_moment (day_text d ++ (codes "T" ++ (clock_text c ++ zone_text z))) ≡ moment_parts d c z
moment_cut d c z is =
    let whole : TimeParts → MomentParts = λ t. record { day = day_text d; mark = 84; time = t } in
    ap whole (cut_written c (zone_text z) (and_parts (is_time_of_day c.hour c.minute c.second) (list_all is_ascii_digit c.fraction) is).1 (zone_stops z))

-- ---- days

no_longer : (leap feb short : Bool) → (if feb then (if leap then 29 else 28) else (if short then 30 else 31)) ≤ 31
no_longer leap feb short = grind arith

pub record DayRange (d : Day) : Type 0 where
  pub first_year : 1 ≤ d.year
  pub last_year : d.year ≤ 9999
  pub month : d.month ≤ 12
  pub day : d.day ≤ 31
  pub is_day : is_day d ≡ true

pub day_range : (d : Day) → has_day d.year d.month d.day ≡ true → DayRange d
day_range d is =
    let whole = and_parts (nat_le 1 d.year && nat_le d.year 9999) (is_in_calendar d.year d.month d.day) is in
    let years = and_parts (nat_le 1 d.year) (nat_le d.year 9999) whole.0 in
    let parts = day_parts d whole.1 in
    let high = parts.1 in
    let last = parts.3 in
    let most = no_longer (is_leap d.year) (d.month == 2) (is_short_month d.month) in
    record { first_year = leb-true 1 d.year years.0; last_year = leb-true d.year 9999 years.1; month = high; day = omega arith; is_day = whole.1 }

made : (y m e : ℕ) (d : Day) → y ≡ d.year → m ≡ d.month → e ≡ d.day → (let made : Day = record { year = y; month = m; day = e } in made) ≡ d
made y m e d p q r =
    let by_year : ℕ → Day = λ k. record { year = k; month = m; day = e } in
    let by_month : ℕ → Day = λ k. record { year = d.year; month = k; day = e } in
    let by_day : ℕ → Day = λ k. record { year = d.year; month = d.month; day = k } in
    ap by_year p ∙ ap by_month q ∙ ap by_day r

pub day_read : (d : Day) → DayRange d → day_at (day_text d) ≡ d
day_read d range =
    let y = range.last_year in
    let m = range.month in
    let e = range.day in
    made (year_of (day_text d)) (pair_at (day_text d) 5) (pair_at (day_text d) 8) d (omega arith) (omega arith) (omega arith)

pub day_is : (d : Day) → has_day d.year d.month d.day ≡ true → is_day_text (day_text d) ≡ true
day_is d is =
    let range = day_range d is in
    let y = range.last_year in
    let m = range.month in
    let e = range.day in
    let shape : has_shape (codes "0000-00-00") (day_text d) ≡ true =
    two_fit (d.year / 100) _ (omega arith) (two_fit (d.year % 100) _ (omega arith) (two_fit d.month _ (omega arith) (two_fit d.day _ (omega arith) refl))) in
    and_from (has_shape (codes "0000-00-00") (day_text d)) (has_day (year_of (day_text d)) (pair_at (day_text d) 5) (pair_at (day_text d) 8))
    shape (ap (λ d. has_day d.year d.month d.day) (day_read d range) ∙ is)

-- ---- clocks

pub record ClockRange (c : Clock) : Type 0 where
  pub hour : c.hour ≤ 23
  pub minute : c.minute ≤ 59
  pub second : c.second ≤ 60
  pub digits : list_all is_ascii_digit c.fraction ≡ true

pub clock_range : (c : Clock) → is_possible_clock c ≡ true → ClockRange c
clock_range c is =
    let whole = and_parts (is_time_of_day c.hour c.minute c.second) (list_all is_ascii_digit c.fraction) is in
    let two = and_parts (nat_le c.hour 23 && nat_le c.minute 59) (nat_le c.second 60) whole.0 in
    let one = and_parts (nat_le c.hour 23) (nat_le c.minute 59) two.0 in
    record { hour = leb-true c.hour 23 one.0; minute = leb-true c.minute 59 one.1; second = leb-true c.second 60 two.1; digits = whole.1 }

pub record ClockRead (c : Clock) : Type 0 where
  pub hour : pair_at (hms_text c.hour c.minute c.second) 0 ≡ c.hour
  pub minute : pair_at (hms_text c.hour c.minute c.second) 3 ≡ c.minute
  pub second : pair_at (hms_text c.hour c.minute c.second) 6 ≡ c.second

pub clock_read : (c : Clock) → ClockRange c → ClockRead c
clock_read c range =
    let h = range.hour in
    let m = range.minute in
    let s = range.second in
    record { hour = omega arith; minute = omega arith; second = omega arith }

fraction_is : (f : List ℕ) → list_all is_ascii_digit f ≡ true → is_fraction (fraction_text f) ≡ true
fraction_is [] are = refl
fraction_is (b ∷ bs) are = and_from (not (is_empty (b ∷ bs))) (list_all is_ascii_digit (b ∷ bs)) refl are

pub clock_is : (c : Clock) (z : List ℕ) → is_possible_clock c ≡ true → has_clock (time_parts c z) ≡ true
clock_is c z is =
    let range = clock_range c is in
    let read = clock_read c range in
    let h = range.hour in
    let m = range.minute in
    let s = range.second in
    let text = hms_text c.hour c.minute c.second in
    let shape : has_shape (codes "00:00:00") text ≡ true =
    two_fit c.hour _ (omega arith) (two_fit c.minute _ (omega arith) (two_fit c.second _ (omega arith) refl)) in
    let ranges = (and_parts (is_time_of_day c.hour c.minute c.second) (list_all is_ascii_digit c.fraction) is).0 in
    let day : is_time_of_day (pair_at text 0) (pair_at text 3) (pair_at text 6) ≡ true =
    ap (λ k. is_time_of_day k (pair_at text 3) (pair_at text 6)) read.hour
    ∙ ap (λ k. is_time_of_day c.hour k (pair_at text 6)) read.minute
    ∙ ap (λ k. is_time_of_day c.hour c.minute k) read.second ∙ ranges in
    let clock = and_from (has_shape (codes "00:00:00") text) (is_time_of_day (pair_at text 0) (pair_at text 3) (pair_at text 6)) shape day in
    and_from (is_clock text) (is_fraction (fraction_text c.fraction)) clock (fraction_is c.fraction range.digits)

-- ---- zones

pub offset_range : (h m : ℕ) → is_offset h m ≡ true → (h ≤ 14) × (m ≤ 59)
offset_range h m is =
    let parts = and_parts (nat_le m 59) (nat_le (60 * h + m) 840) is in
    let small = leb-true m 59 parts.0 in
    let whole = leb-true (60 * h + m) 840 parts.1 in
    (omega arith, small)

pub offset_size : (h m : ℕ) → is_offset h m ≡ true → is_offset_size h m ≡ true
offset_size h m is = grind arith

pub offset_back : (h m : ℕ) → is_offset_size h m ≡ true → is_offset h m ≡ true
offset_back h m is = grind arith

pub zone_is : (z : Zone) → is_possible_zone z ≡ true → is_zone (zone_text z) ≡ true
zone_is utc is = refl
zone_is (ahead h m) is =
    let range = offset_range h m is in
    let h_high = range.0 in
    let m_high = range.1 in
    let hours : pair_at (zone_text (ahead h m)) 1 ≡ h = omega arith in
    let minutes : pair_at (zone_text (ahead h m)) 4 ≡ m = omega arith in
    let shape : has_shape (codes "+00:00") (zone_text (ahead h m)) ≡ true = two_fit h _ (omega arith) (two_fit m _ (omega arith) refl) in
    let form = or_left (has_shape (codes "+00:00") (zone_text (ahead h m))) (has_shape (codes "-00:00") (zone_text (ahead h m))) shape in
    and_from (is_offset_form (zone_text (ahead h m))) (is_offset_size (pair_at (zone_text (ahead h m)) 1) (pair_at (zone_text (ahead h m)) 4))
    form (ap₂ is_offset_size hours minutes ∙ offset_size h m is)
zone_is (behind h m) is =
    let range = offset_range h m is in
    let h_high = range.0 in
    let m_high = range.1 in
    let hours : pair_at (zone_text (behind h m)) 1 ≡ h = omega arith in
    let minutes : pair_at (zone_text (behind h m)) 4 ≡ m = omega arith in
    let shape : has_shape (codes "-00:00") (zone_text (behind h m)) ≡ true = two_fit h _ (omega arith) (two_fit m _ (omega arith) refl) in
    let form = or_right (has_shape (codes "+00:00") (zone_text (behind h m))) (has_shape (codes "-00:00") (zone_text (behind h m))) shape in
    and_from (is_offset_form (zone_text (behind h m))) (is_offset_size (pair_at (zone_text (behind h m)) 1) (pair_at (zone_text (behind h m)) 4))
    form (ap₂ is_offset_size hours minutes ∙ offset_size h m is)

-- ---- moments

pub moment_is : (d : Day) (c : Clock) (z : Zone) → has_day d.year d.month d.day ≡ true → is_possible_clock c ≡ true → is_possible_zone z ≡ true
    → is_moment (moment_parts d c z) ≡ true
moment_is d c z day clock zone =
    ap₂ ◌&&◌ (ap₂ ◌&&◌ (ap₂ ◌&&◌ (day_is d day) refl) (clock_is c (zone_text z) clock)) (zone_is z zone)
