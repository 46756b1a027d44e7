-- A text is written from one thing alone, which says one thing alone.
use Rattle.std.proofs.Common.{◌≡◌, ◌∙◌, ap, ap₂, refl, sym, ℕ, ◌+◌, ◌*◌, ◌%◌, ◌/◌, List, [], drop, true, false, arith}
use Rattle.std.specs.Prelude.{codes, if◌then◌else◌}
use Rattle.std.specs.declared.cmp.Ordering.{Ordering}
use Rattle.std.specs.declared.cmp.Ordering.TheVariants.{Less, Equal, Greater}
use Rattle.std.specs.Ordering.{nat_cmp, ordering_then}
use Rattle.std.specs.Cmp.{nat_cmp_is}
use Rattle.fhir_prims.specs.declared.calendar.Day.{Day}
use Rattle.fhir_prims.specs.Shapes.{has_shape, pair_at}
use Rattle.fhir_prims.specs.Cut.{MomentParts, cut_time, cut_moment}
use Rattle.fhir_prims.specs.Moments.{year_of, is_year_text, is_month_text, is_day_text, is_instant}
use Rattle.fhir_prims.specs.Calendar.{minutes_since}
use Rattle.fhir_prims.specs.Order.{Fields}
use Rattle.fhir_prims.specs.Utc.{day_at, is_behind}
use Rattle.fhir_prims.specs.Written.{Clock, Zone, utc, ahead, behind, Written, year, month, day, moment, time, fraction_text, zone_text, text_of}
use Rattle.fhir_prims.specs.Written.{is_possible_clock, is_possible_zone, is_possible, Shows, SaysMoment, Says}
use Rattle.fhir_prims.proofs.InTime.{by_fields, counted, equal_numbers}
use Rattle.fhir_prims.proofs.Forms.{hms_text}
use Rattle.fhir_prims.proofs.Cuts.{time_parts, time_cut, moment_parts, day_range, day_read, day_is, clock_range, clock_read, offset_range}
use Rattle.fhir_prims.proofs.Said.{year_form, month_form, longer, digits_read, no_day_time, no_instant, moment_form}
use Rattle.fhir_prims.proofs.Found.{clock_in}

-- ---- what is said

both_equal : (a b : Ordering) → ordering_then a b ≡ Equal → (a ≡ Equal) × (b ≡ Equal)
both_equal Equal b e = (refl, e)
both_equal Less b e = let no : ⊥ = cc in absurd no
both_equal Greater b e = let no : ⊥ = cc in absurd no

shown_once : (z : Zone) (u v l : ℕ) → Shows z u l → Shows z v l → u ≡ v
shown_once utc u v l p q = omega arith
shown_once (ahead h m) u v l p q = omega arith
shown_once (behind h m) u v l p q = omega arith

moment_once : (d : Day) (c : Clock) (z : Zone) (f g : Fields) → SaysMoment d c z f → SaysMoment d c z g → f ≡ g
moment_once d c z f g x y =
    let m = 60 * x.hour + x.minute in
    let n = 60 * y.hour + y.minute in
    let x_hour = x.is_hour in
    let x_minute = x.is_minute in
    let y_hour = y.is_hour in
    let y_minute = y.is_minute in
    let same = shown_once z (minutes_since x.day m) (minutes_since y.day n) _ x.shows y.shows in
    let level : nat_cmp (minutes_since x.day m) (minutes_since y.day n) ≡ Equal = sym (nat_cmp_is (minutes_since x.day m) (minutes_since y.day n) Equal same) in
    let parts = both_equal (by_fields x.day y.day) _ (sym (counted x.day y.day m n x.is_day y.is_day (omega arith) (omega arith)) ∙ level) in
    let days = both_equal (nat_cmp x.day.year y.day.year) _ parts.0 in
    let in_year = both_equal (nat_cmp x.day.month y.day.month) _ days.1 in
    let times = both_equal (nat_cmp (m / 60) (n / 60)) _ parts.1 in
    let years = equal_numbers x.day.year y.day.year days.0 in
    let months = equal_numbers x.day.month y.day.month in_year.0 in
    let of_month = equal_numbers x.day.day y.day.day in_year.1 in
    let hours = equal_numbers (m / 60) (n / 60) times.0 in
    let minutes = equal_numbers (m % 60) (n % 60) times.1 in
    let hour : x.hour ≡ y.hour = omega arith in
    let minute : x.minute ≡ y.minute = omega arith in
    let f_is = x.fields in
    let g_is = y.fields in
    cc

pub says_once : (w : Written) (f g : Fields) → Says w f → Says w g → f ≡ g
says_once (year y) f g p q = p ∙ sym q
says_once (month y m) f g p q = p ∙ sym q
says_once (day d) f g p q = p ∙ sym q
says_once (moment d c z) f g p q = moment_once d c z f g p q
says_once (time c) f g p q = p ∙ sym q

-- ---- what is written

abbrev zone_in : List ℕ → Zone
zone_in z = if has_shape (codes "Z") z then utc else (if is_behind z then behind (pair_at z 1) (pair_at z 4) else ahead (pair_at z 1) (pair_at z 4))

abbrev written_in : List ℕ → Written
written_in s =
    if is_year_text s then year (year_of s)
    else (if is_month_text s then month (year_of s) (pair_at s 5)
    else (if is_day_text s then day (day_at s)
    else (if is_instant s then moment (day_at (cut_moment s).day) (clock_in (cut_moment s).time) (zone_in (cut_moment s).time.zone)
    else time (clock_in (cut_time s)))))

as_year : (s : List ℕ) → is_year_text s ≡ true → written_in s ≡ year (year_of s)
as_year s a = rw a refl

as_month : (s : List ℕ) → is_year_text s ≡ false → is_month_text s ≡ true → written_in s ≡ month (year_of s) (pair_at s 5)
as_month s a b = rw (a, b) refl

as_day : (s : List ℕ) → is_year_text s ≡ false → is_month_text s ≡ false → is_day_text s ≡ true → written_in s ≡ day (day_at s)
as_day s a b c = rw (a, b, c) refl

abbrev moment_in : MomentParts → Written
moment_in p = moment (day_at p.day) (clock_in p.time) (zone_in p.time.zone)

as_moment : (s : List ℕ) → is_year_text s ≡ false → is_month_text s ≡ false → is_day_text s ≡ false → is_instant s ≡ true
    → written_in s ≡ moment_in (cut_moment s)
as_moment s a b c d = rw (a, b, c, d) refl

as_time : (s : List ℕ) → is_year_text s ≡ false → is_month_text s ≡ false → is_day_text s ≡ false → is_instant s ≡ false
    → written_in s ≡ time (clock_in (cut_time s))
as_time s a b c d = rw (a, b, c, d) refl

zone_again : (z : Zone) → is_possible_zone z ≡ true → zone_in (zone_text z) ≡ z
zone_again utc is = refl
zone_again (ahead h m) is =
    let range = offset_range h m is in
    let h_high = range.0 in
    let m_high = range.1 in
    let hours : pair_at (zone_text (ahead h m)) 1 ≡ h = omega arith in
    let minutes : pair_at (zone_text (ahead h m)) 4 ≡ m = omega arith in
    ap₂ ahead hours minutes
zone_again (behind h m) is =
    let range = offset_range h m is in
    let h_high = range.0 in
    let m_high = range.1 in
    let hours : pair_at (zone_text (behind h m)) 1 ≡ h = omega arith in
    let minutes : pair_at (zone_text (behind h m)) 4 ≡ m = omega arith in
    ap₂ behind hours minutes

clock_again : (c : Clock) (z : List ℕ) → is_possible_clock c ≡ true → clock_in (time_parts c z) ≡ c
clock_again c z is =
    let read = clock_read c (clock_range c is) in
    let full : ℕ → ℕ → ℕ → List ℕ → Clock = λ h m s f. record { hour = h; minute = m; second = s; fraction = f } in
    let text = hms_text c.hour c.minute c.second in
    ap₂ (λ h m. full h m (pair_at text 6) (drop 1 (fraction_text c.fraction))) read.hour read.minute
    ∙ ap₂ (full c.hour c.minute) read.second (digits_read c.fraction)

again : (w : Written) → is_possible w ≡ true → written_in (text_of w) ≡ w
again (year y) is =
    let facts = year_form y is in
    as_year (text_of (year y)) facts.form ∙ ap year facts.number
again (month y m) is =
    let facts = month_form y m is in
    as_month (text_of (month y m)) facts.no_year facts.form ∙ ap₂ month facts.number facts.of_month
again (day d) is =
    let s = text_of (day d) in
    let other = longer s (omega arith) in
    as_day s other.no_year other.no_month (day_is d is) ∙ ap day (day_read d (day_range d is))
again (moment d c z) is =
    let s = text_of (moment d c z) in
    let other = longer s (omega arith) in
    let facts = moment_form d c z is in
    let parts = moment_parts d c z in
    as_moment s other.no_year other.no_month facts.no_day facts.form
    ∙ ap moment_in facts.cut
    ∙ ap₂ (λ d z. moment d (clock_in parts.time) z) (day_read d (day_range d facts.day)) (zone_again z facts.zone)
    ∙ ap (λ c. moment d c z) (clock_again c (zone_text z) facts.clock)
again (time c) is =
    let s = text_of (time c) in
    let other = longer s (omega arith) in
    as_time s other.no_year other.no_month (no_day_time c) (no_instant c) ∙ ap (λ t. time (clock_in t)) (time_cut c is) ∙ ap time (clock_again c [] is)

pub written_once : (w v : Written) → is_possible w ≡ true → is_possible v ≡ true → text_of w ≡ text_of v → w ≡ v
written_once w v p q same = sym (again w p) ∙ ap written_in same ∙ again v q
