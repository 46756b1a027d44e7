-- What is written is read, and says what it is written for.
use Rattle.std.proofs.Common.{◌≡◌, ◌∙◌, ap, ap₂, refl, ℕ, ◌+◌, ◌*◌, ◌%◌, ◌/◌, ◌<◌, ◌≤◌, List, [], ◌∷◌, length, drop, Bool, true, false, ◌&&◌, ◌==◌, nat_le}
use Rattle.std.proofs.Common.{Some, None, arith}
use Rattle.std.specs.Prelude.{codes}
use Rattle.std.proofs.lemmas.Bool.{and_parts, and_from, and_left, and_right, leb-true, le-leb}
use Rattle.fhir_json.specs.Bytes.{is_empty}
use Rattle.fhir_decimal.specs.Text.{unsigned_parts}
use Rattle.fhir_decimal.specs.Value.{Value, value_of}
use Rattle.fhir_prims.specs.declared.calendar.Day.{Day}
use Rattle.fhir_prims.specs.Shapes.{has_shape, all_fit, pair_at}
use Rattle.fhir_prims.specs.Cut.{cut_time, cut_moment}
use Rattle.fhir_prims.specs.Moments.{is_month, year_of, has_day, is_year_text, is_month_text, is_day_text, is_zone, has_clock, is_moment, is_instant, is_time}
use Rattle.fhir_prims.specs.Calendar.{minutes_since}
use Rattle.fhir_prims.specs.Order.{Fields}
use Rattle.fhir_prims.specs.Utc.{day_at, minutes_at, second_of, offset_of, is_behind}
use Rattle.fhir_prims.specs.Reading.{date_fields, year_fields, month_fields, day_fields, moment_fields, time_fields, minutes_of, day_of, instant_fields}
use Rattle.fhir_prims.specs.Reading.{fields_of}
use Rattle.fhir_prims.specs.Written.{Clock, Zone, utc, ahead, behind, Written, year, month, day, moment, time, four_digits, day_text, fraction_text, clock_text}
use Rattle.fhir_prims.specs.Written.{zone_text, text_of, is_year, is_possible_clock, is_possible_zone, is_possible, second_in, Shows, SaysMoment, Says}
use Rattle.fhir_prims.proofs.ToUtc as to_utc
use Rattle.fhir_prims.proofs.Forms.{two_fit, other_length, hms_text}
use Rattle.fhir_prims.proofs.Cuts.{time_parts, time_cut, moment_parts, moment_cut, day_range, day_read, day_is, clock_range, clock_read, clock_is, zone_is}
use Rattle.fhir_prims.proofs.Cuts.{offset_range, moment_is}

-- the text is read, as what it is written for
pub record IsRead (w : Written) : Type 0 where
  pub fields : Fields
  pub read : fields_of (text_of w) ≡ Some fields
  pub says : Says w fields

-- ---- the form that a text has

as_year : (s : List ℕ) → is_year_text s ≡ true → fields_of s ≡ Some (year_fields s)
as_year s a = rw a refl

as_month : (s : List ℕ) → is_year_text s ≡ false → is_month_text s ≡ true → fields_of s ≡ Some (month_fields s)
as_month s a b = rw (a, b) refl

as_day : (s : List ℕ) → is_year_text s ≡ false → is_month_text s ≡ false → is_day_text s ≡ true
    → fields_of s ≡ Some (day_fields s)
as_day s a b c = rw (a, b, c) refl

as_instant : (s : List ℕ) → is_year_text s ≡ false → is_month_text s ≡ false → is_day_text s ≡ false → is_instant s ≡ true
    → fields_of s ≡ Some (instant_fields (cut_moment s))
as_instant s a b c d = rw (a, b, c, d) refl

as_time : (s : List ℕ) → is_year_text s ≡ false → is_month_text s ≡ false → is_day_text s ≡ false → is_instant s ≡ false → is_time s ≡ true
    → fields_of s ≡ Some (time_fields (cut_time s))
as_time s a b c d e = rw (a, b, c, d, e) refl

no_year : (s : List ℕ) → (4 ≡ length s → ⊥) → is_year_text s ≡ false
no_year s other = and_left (has_shape (codes "0000") s) (nat_le 1 (year_of s)) (other_length (codes "0000") s other)

no_month : (s : List ℕ) → (7 ≡ length s → ⊥) → is_month_text s ≡ false
no_month s other =
    and_left (has_shape (codes "0000-00") s && nat_le 1 (year_of s)) (is_month (pair_at s 5))
    (and_left (has_shape (codes "0000-00") s) (nat_le 1 (year_of s)) (other_length (codes "0000-00") s other))

no_day : (s : List ℕ) → has_shape (codes "0000-00-00") s ≡ false → is_day_text s ≡ false
no_day s other = and_left (has_shape (codes "0000-00-00") s) (has_day (year_of s) (pair_at s 5) (pair_at s 8)) other

-- ---- years, months and days

pub record YearForm (y : ℕ) : Type 0 where
  pub number : year_of (four_digits y) ≡ y
  pub form : is_year_text (four_digits y) ≡ true

pub year_form : (y : ℕ) → is_year y ≡ true → YearForm y
year_form y is =
    let range = and_parts (nat_le 1 y) (nat_le y 9999) is in
    let low = leb-true 1 y range.0 in
    let high = leb-true y 9999 range.1 in
    let s = four_digits y in
    let shape : has_shape (codes "0000") s ≡ true = two_fit (y / 100) _ (omega arith) (two_fit (y % 100) _ (omega arith) refl) in
    record { number = omega arith; form = and_from (has_shape (codes "0000") s) (nat_le 1 (year_of s)) shape (le-leb 1 (year_of s) (omega arith)) }

year_said : (y : ℕ) → is_year y ≡ true → IsRead (year y)
year_said y is =
    let s = four_digits y in
    let facts = year_form y is in
    record { fields = year_fields s; read = as_year s facts.form; says = ap (λ k. date_fields (Some k) None None) facts.number }

pub record MonthForm (y m : ℕ) : Type 0 where
  pub number : year_of (text_of (month y m)) ≡ y
  pub of_month : pair_at (text_of (month y m)) 5 ≡ m
  pub no_year : is_year_text (text_of (month y m)) ≡ false
  pub form : is_month_text (text_of (month y m)) ≡ true

pub month_form : (y m : ℕ) → is_possible (month y m) ≡ true → MonthForm y m
month_form y m is =
    let whole = and_parts (is_year y) (is_month m) is in
    let years = and_parts (nat_le 1 y) (nat_le y 9999) whole.0 in
    let months = and_parts (nat_le 1 m) (nat_le m 12) whole.1 in
    let low = leb-true 1 y years.0 in
    let high = leb-true y 9999 years.1 in
    let last = leb-true m 12 months.1 in
    let s = text_of (month y m) in
    let of_month : pair_at s 5 ≡ m = omega arith in
    let shape : has_shape (codes "0000-00") s ≡ true = two_fit (y / 100) _ (omega arith) (two_fit (y % 100) _ (omega arith) (two_fit m _ (omega arith) refl)) in
    let front = and_from (has_shape (codes "0000-00") s) (nat_le 1 (year_of s)) shape (le-leb 1 (year_of s) (omega arith)) in
    record {
      number = omega arith;
      of_month = of_month;
      no_year = no_year s (λ e. omega arith);
      form = and_from (has_shape (codes "0000-00") s && nat_le 1 (year_of s)) (is_month (pair_at s 5)) front (ap is_month of_month ∙ whole.1);
    }

month_said : (y m : ℕ) → is_possible (month y m) ≡ true → IsRead (month y m)
month_said y m is =
    let s = text_of (month y m) in
    let facts = month_form y m is in
    record {
      fields = month_fields s;
      read = as_month s facts.no_year facts.form;
      says = ap₂ (λ k l. date_fields (Some k) (Some l) None) facts.number facts.of_month;
    }

-- a text of 8 bytes or more is that of no year and no month
pub record IsLonger (s : List ℕ) : Type 0 where
  pub no_year : is_year_text s ≡ false
  pub no_month : is_month_text s ≡ false

pub longer : (s : List ℕ) → 8 ≤ length s → IsLonger s
longer s long = record { no_year = no_year s (λ e. omega arith); no_month = no_month s (λ e. omega arith) }

day_said : (d : Day) → is_possible (day d) ≡ true → IsRead (day d)
day_said d is =
    let s = day_text d in
    let other = longer s (omega arith) in
    record {
      fields = day_fields s;
      read = as_day s other.no_year other.no_month (day_is d is);
      says = ap (λ d. date_fields (Some d.year) (Some d.month) (Some d.day)) (day_read d (day_range d is));
    }

-- ---- times

pub digits_read : (f : List ℕ) → drop 1 (fraction_text f) ≡ f
digits_read [] = refl
digits_read (b ∷ bs) = refl

second_read : (c : Clock) (z : List ℕ) → second_of (time_parts c z) ≡ second_in c
second_read c z = ap (λ f. value_of (unsigned_parts (drop 6 (hms_text c.hour c.minute c.second)) f)) (digits_read c.fraction)

third_off : (x y : Bool) → (x && (y && false)) ≡ false
third_off x y = and_right x (y && false) (and_right y false refl)

-- a clock's third byte is no digit
no_day_shape : (c : Clock) → has_shape (codes "0000-00-00") (clock_text c) ≡ false
no_day_shape c =
    let s = clock_text c in
    and_right (10 == length s) (all_fit (codes "0000-00-00") s) (third_off _ _)

pub no_instant : (c : Clock) → is_instant (clock_text c) ≡ false
no_instant c =
    let p = cut_moment (clock_text c) in
    let front : has_shape (codes "0000-00-00") p.day ≡ false = and_right (10 == length p.day) (all_fit (codes "0000-00-00") p.day) (third_off _ _) in
    and_left (is_day_text p.day && (p.mark == 84) && has_clock p.time) (is_zone p.time.zone)
    (and_left (is_day_text p.day && (p.mark == 84)) (has_clock p.time) (and_left (is_day_text p.day) (p.mark == 84) (no_day p.day front)))

pub no_day_time : (c : Clock) → is_day_text (clock_text c) ≡ false
no_day_time c = no_day (clock_text c) (no_day_shape c)

pub time_form : (c : Clock) → is_possible_clock c ≡ true → is_time (clock_text c) ≡ true
time_form c is =
    let p = time_parts c [] in
    ap (λ t. has_clock t && is_empty t.zone) (time_cut c is) ∙ and_from (has_clock p) (is_empty p.zone) (clock_is c [] is) refl

time_said : (c : Clock) → is_possible_clock c ≡ true → IsRead (time c)
time_said c is =
    let s = clock_text c in
    let p = time_parts c [] in
    let read = clock_read c (clock_range c is) in
    let other = longer s (omega arith) in
    let full : ℕ → ℕ → Value → Fields = λ h m v. record { year = None; month = None; day = None; hour = Some h; minute = Some m; second = Some v } in
    record {
      fields = time_fields p;
      read = as_time s other.no_year other.no_month (no_day_time c) (no_instant c) (time_form c is) ∙ ap (λ t. Some (time_fields t)) (time_cut c is);
      says = ap₂ (λ h m. full h m (second_of p)) read.hour read.minute ∙ ap (full c.hour c.minute) (second_read c []);
    }

-- ---- moments

shows_by : (z : Zone) → is_possible_zone z ≡ true → (u l : ℕ)
    → (is_behind (zone_text z) ≡ false → u + offset_of (zone_text z) ≡ l) → (is_behind (zone_text z) ≡ true → u ≡ l + offset_of (zone_text z)) → Shows z u l
shows_by utc is u l before after =
    let e = before refl in
    omega arith
shows_by (ahead h m) is u l before after =
    let range = offset_range h m is in
    let h_high = range.0 in
    let m_high = range.1 in
    let e = before refl in
    omega arith
shows_by (behind h m) is u l before after =
    let range = offset_range h m is in
    let h_high = range.0 in
    let m_high = range.1 in
    let e = after refl in
    omega arith

plus : (a b o x y : ℕ) → a ≡ b → a + o ≡ x → x ≡ y → b + o ≡ y
plus a b o x y same sum there = omega arith

plus_there : (a b o x y : ℕ) → a ≡ b → a ≡ x + o → x ≡ y → b ≡ y + o
plus_there a b o x y same sum there = omega arith

moment_says : (d : Day) (c : Clock) (z : Zone) → has_day d.year d.month d.day ≡ true → is_possible_clock c ≡ true → is_possible_zone z ≡ true
    → SaysMoment d c z (instant_fields (moment_parts d c z))
moment_says d c z day_is clock_is zone_is =
    let p = moment_parts d c z in
    let is = moment_is d c z day_is clock_is zone_is in
    let u = minutes_of p.time % 1440 in
    let small : u < 1440 = omega arith in
    let in_hours : u ≡ 60 * (u / 60) + u % 60 = omega arith in
    let read = clock_read c (clock_range c clock_is) in
    let there : minutes_since (day_at p.day) (minutes_at p.time.clock 0) ≡ minutes_since d (60 * c.hour + c.minute) =
    ap₂ minutes_since (day_read d (day_range d day_is)) (ap₂ (λ h m. 60 * h + m) read.hour read.minute) in
    let same = ap (minutes_since (day_of p)) in_hours in
    let at_u : ℕ = minutes_since (day_of p) u in
    record {
      day = day_of p;
      hour = u / 60;
      minute = u % 60;
      is_day = to_utc.on_a_day p is;
      is_hour = omega arith;
      is_minute = omega arith;
      fields = ap (moment_fields (day_of p) u) (second_read c (zone_text z));
      shows = shows_by z zone_is (minutes_since (day_of p) (60 * (u / 60) + u % 60)) (minutes_since d (60 * c.hour + c.minute))
          (λ e. plus at_u _ (offset_of p.time.zone) _ _ same (to_utc.ahead p is e) there)
          (λ e. plus_there at_u _ (offset_of p.time.zone) _ _ same (to_utc.behind p is e) there);
    }

pub record MomentForm (d : Day) (c : Clock) (z : Zone) : Type 0 where
  pub day : has_day d.year d.month d.day ≡ true
  pub clock : is_possible_clock c ≡ true
  pub zone : is_possible_zone z ≡ true
  pub cut : cut_moment (text_of (moment d c z)) ≡ moment_parts d c z
  pub no_day : is_day_text (text_of (moment d c z)) ≡ false
  pub form : is_instant (text_of (moment d c z)) ≡ true

pub moment_form : (d : Day) (c : Clock) (z : Zone) → is_possible (moment d c z) ≡ true → MomentForm d c z
moment_form d c z is =
    let whole = and_parts (has_day d.year d.month d.day && is_possible_clock c) (is_possible_zone z) is in
    let front = and_parts (has_day d.year d.month d.day) (is_possible_clock c) whole.0 in
    let s = text_of (moment d c z) in
    let cut = moment_cut d c z front.1 in
    record {
      day = front.0;
      clock = front.1;
      zone = whole.1;
      cut = cut;
      no_day = no_day s (other_length (codes "0000-00-00") s (λ e. omega arith));
      form = ap is_moment cut ∙ moment_is d c z front.0 front.1 whole.1;
    }

moment_said : (d : Day) (c : Clock) (z : Zone) → is_possible (moment d c z) ≡ true → IsRead (moment d c z)
moment_said d c z is =
    let s = text_of (moment d c z) in
    let other = longer s (omega arith) in
    let facts = moment_form d c z is in
    record {
      fields = instant_fields (moment_parts d c z);
      read = as_instant s other.no_year other.no_month facts.no_day facts.form ∙ ap (λ p. Some (instant_fields p)) facts.cut;
      says = moment_says d c z facts.day facts.clock facts.zone;
    }

pub all_read : (w : Written) → is_possible w ≡ true → IsRead w
all_read (year y) is = year_said y is
all_read (month y m) is = month_said y m is
all_read (day d) is = day_said d is
all_read (moment d c z) is = moment_said d c z is
all_read (time c) is = time_said c is
