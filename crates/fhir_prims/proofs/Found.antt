-- What is read is written from its parts.
use Rattle.std.proofs.Common.{◌≡◌, ◌∙◌, ap, ap₂, refl, sym, ℕ, List, [], ◌∷◌, ◌++◌, length, take, drop, slice_index, Bool, true, false, true≢false, ◌&&◌, ◌||◌}
use Rattle.std.proofs.Common.{◌==◌, nat_le, Some, append_assoc, drop-cons, inl, inr, arith, not}
use Rattle.std.specs.Prelude.{codes, is_some}
use Rattle.std.proofs.Math.ListN.{get_or-eq_default}
use Rattle.std.proofs.lemmas.List.{take-append-drop, append-nil}
use Rattle.std.proofs.lemmas.Bool.{and_parts, and_from, or_cases, le-leb, eqb-true, cases_lt}
use Rattle.std.specs.Char.{is_ascii_digit}
use Rattle.std.specs.List.{list_all}
use Rattle.fhir_json.specs.Bytes.{is_empty}
use Rattle.fhir_decimal.specs.Text.{are_digits}
use Rattle.fhir_prims.specs.Shapes.{has_shape, pair_at}
use Rattle.fhir_prims.specs.Cut.{TimeParts, fraction_len, cut_time, cut_moment}
use Rattle.fhir_prims.specs.Moments.{is_month, year_of, has_day, is_year_text, is_month_text, is_day_text, is_time_of_day, is_clock, is_fraction}
use Rattle.fhir_prims.specs.Moments.{is_offset_form, is_offset_size, is_zone, has_clock, is_instant, is_time}
use Rattle.fhir_prims.specs.Order.{Fields}
use Rattle.fhir_prims.specs.Utc.{day_at}
use Rattle.fhir_prims.specs.Reading.{fields_of}
use Rattle.fhir_prims.specs.Written.{Clock, Zone, utc, ahead, behind, Written, year, month, day, moment, time, fraction_text, clock_text, zone_text, text_of}
use Rattle.fhir_prims.specs.Written.{is_possible_zone, is_possible}
use Rattle.fhir_prims.proofs.Told.{which}
use Rattle.fhir_prims.proofs.Instants.{moment_facts}
use Rattle.fhir_prims.proofs.Cuts.{offset_back}
use Rattle.fhir_prims.proofs.Forms.{year_back, month_back, day_back, clock_back, zulu_back, ahead_back, behind_back, shape_length}

-- the text is written from parts
pub record IsWritten (s : List ℕ) : Type 0 where
  pub written : Written
  pub possible : is_possible written ≡ true
  pub text : text_of written ≡ s

-- ---- years, months and days

year_written : (s : List ℕ) → is_year_text s ≡ true → IsWritten s
year_written s is =
    let parts = and_parts (has_shape (codes "0000") s) (nat_le 1 (year_of s)) is in
    let back = year_back s parts.0 in
    let years = and_from (nat_le 1 (year_of s)) (nat_le (year_of s) 9999) parts.1 (le-leb (year_of s) 9999 back.1) in
    record { written = year (year_of s); possible = years; text = back.0 }

month_written : (s : List ℕ) → is_month_text s ≡ true → IsWritten s
month_written s is =
    let whole = and_parts (has_shape (codes "0000-00") s && nat_le 1 (year_of s)) (is_month (pair_at s 5)) is in
    let front = and_parts (has_shape (codes "0000-00") s) (nat_le 1 (year_of s)) whole.0 in
    let back = month_back s front.0 in
    let years = and_from (nat_le 1 (year_of s)) (nat_le (year_of s) 9999) front.1 (le-leb (year_of s) 9999 back.1) in
    let possible = and_from (nat_le 1 (year_of s) && nat_le (year_of s) 9999) (is_month (pair_at s 5)) years whole.1 in
    record { written = month (year_of s) (pair_at s 5); possible = possible; text = back.0 }

day_written : (s : List ℕ) → is_day_text s ≡ true → IsWritten s
day_written s is =
    let parts = and_parts (has_shape (codes "0000-00-00") s) (has_day (year_of s) (pair_at s 5) (pair_at s 8)) is in
    record { written = day (day_at s); possible = parts.1; text = day_back s parts.0 }

-- ---- times

-- the fraction's digits write it
record IsFraction (f : List ℕ) : Type 0 where
  pub digits : list_all is_ascii_digit (drop 1 f) ≡ true
  pub text : fraction_text (drop 1 f) ≡ f

fraction_back : (f : List ℕ) → is_fraction f ≡ true → IsFraction f
fraction_back [] is = record { digits = refl; text = refl }
fraction_back (b ∷ []) is = absurd (true≢false (sym (and_parts (b == 46) (are_digits []) is).1))
fraction_back (b ∷ (d ∷ ds)) is =
    let parts = and_parts (b == 46) (are_digits (d ∷ ds)) is in
    let digits = and_parts (not (is_empty (d ∷ ds))) (list_all is_ascii_digit (d ∷ ds)) parts.1 in
    record { digits = digits.1; text = ap (λ k. k ∷ (d ∷ ds)) (sym (eqb-true b 46 parts.0)) }

abbrev pub clock_in : TimeParts → Clock
clock_in t = record { hour = pair_at t.clock 0; minute = pair_at t.clock 3; second = pair_at t.clock 6; fraction = drop 1 t.fraction }

-- the clock and the fraction are written from their numbers
record IsClock (t : TimeParts) : Type 0 where
  pub possible : is_possible (time (clock_in t)) ≡ true
  pub text : clock_text (clock_in t) ≡ t.clock ++ t.fraction

time_back : (t : TimeParts) → has_clock t ≡ true → IsClock t
time_back t is =
    let whole = and_parts (is_clock t.clock) (is_fraction t.fraction) is in
    let clock = and_parts (has_shape (codes "00:00:00") t.clock) (is_time_of_day (pair_at t.clock 0) (pair_at t.clock 3) (pair_at t.clock 6)) whole.0 in
    let fraction = fraction_back t.fraction whole.1 in
    record {
      possible =
          and_from (is_time_of_day (pair_at t.clock 0) (pair_at t.clock 3) (pair_at t.clock 6))
          (list_all is_ascii_digit (drop 1 t.fraction)) clock.1 fraction.digits;
      text = ap₂ ◌++◌ (clock_back t.clock clock.0) fraction.text;
    }

whole_time : (s : List ℕ) → (cut_time s).clock ++ ((cut_time s).fraction ++ (cut_time s).zone) ≡ s
whole_time s = ap (λ r. take 8 s ++ r) (take-append-drop (fraction_len (drop 8 s)) (drop 8 s)) ∙ take-append-drop 8 s

nothing : (s : List ℕ) → is_empty s ≡ true → s ≡ []
nothing [] is = refl
nothing (b ∷ bs) is = absurd (true≢false (sym is))

time_written : (s : List ℕ) → is_time s ≡ true → IsWritten s
time_written s is =
    let t = cut_time s in
    let parts = and_parts (has_clock t) (is_empty t.zone) is in
    let back = time_back t parts.0 in
    record {
      written = time (clock_in t);
      possible = back.possible;
      text = back.text ∙ sym (append-nil (t.clock ++ t.fraction)) ∙ ap (λ z. (t.clock ++ t.fraction) ++ z) (sym (nothing t.zone parts.1))
          ∙ append_assoc t.clock t.fraction t.zone ∙ whole_time s;
    }

-- ---- moments

record IsZone (z : List ℕ) : Type 0 where
  pub zone : Zone
  pub possible : is_possible_zone zone ≡ true
  pub text : zone_text zone ≡ z

zone_back : (z : List ℕ) → is_zone z ≡ true → IsZone z
zone_back z is = elim (or_cases (has_shape (codes "Z") z) (is_offset_form z && is_offset_size (pair_at z 1) (pair_at z 4)) is) [
  | inl h ↦ record { zone = utc; possible = refl; text = zulu_back z h }
  | inr h ↦
      let parts = and_parts (is_offset_form z) (is_offset_size (pair_at z 1) (pair_at z 4)) h in
      let size = offset_back (pair_at z 1) (pair_at z 4) parts.1 in
      elim (or_cases (has_shape (codes "+00:00") z) (has_shape (codes "-00:00") z) parts.0) [
        | inl plus ↦ record { zone = ahead (pair_at z 1) (pair_at z 4); possible = size; text = ahead_back z plus }
        | inr minus ↦ record { zone = behind (pair_at z 1) (pair_at z 4); possible = size; text = behind_back z minus }
      ]
]

marked : (s : List ℕ) → length (take 10 s) ≡ 10 → slice_index s 10 ≡ 84 → drop 10 s ≡ 84 ∷ drop 11 s
marked s long mark = elim (cases_lt 10 (length s)) [
  | inl more ↦ drop-cons s 10 0 more ∙ ap (λ b. b ∷ drop 11 s) mark
  | inr less ↦
      let none = get_or-eq_default s 0 less in
      absurd (omega arith)
]

moment_written : (s : List ℕ) → is_instant s ≡ true → IsWritten s
moment_written s is =
    let p = cut_moment s in
    let t = p.time in
    let facts = moment_facts p is in
    let day_parts = and_parts (has_shape (codes "0000-00-00") p.day) (has_day (year_of p.day) (pair_at p.day 5) (pair_at p.day 8)) facts.day in
    let clock = time_back t facts.clock in
    let zone = zone_back t.zone facts.zone in
    let long = sym (shape_length (codes "0000-00-00") p.day day_parts.0) in
    let rest : clock_text (clock_in t) ++ zone_text zone.zone ≡ drop 11 s =
    ap₂ ◌++◌ clock.text zone.text ∙ append_assoc t.clock t.fraction t.zone ∙ whole_time (drop 11 s) in
    record {
      written = moment (day_at p.day) (clock_in t) zone.zone;
      possible = ap₂ ◌&&◌ (ap₂ ◌&&◌ day_parts.1 clock.possible) zone.possible;
      text = ap₂ (λ x y. x ++ (84 ∷ y)) (day_back p.day day_parts.0) rest ∙ ap (λ r. take 10 s ++ r) (sym (marked s long (eqb-true p.mark 84 facts.mark)))
          ∙ take-append-drop 10 s;
    }

-- ---- all

by_form : (s : List ℕ) (a b c d e : Bool) → is_year_text s ≡ a → is_month_text s ≡ b → is_day_text s ≡ c
    → is_instant s ≡ d → is_time s ≡ e → ((a || b || c) || (a || b || c || d) || d || e) ≡ true → IsWritten s
by_form s true b c d e p q r t u some = year_written s p
by_form s false true c d e p q r t u some = month_written s q
by_form s false false true d e p q r t u some = day_written s r
by_form s false false false true e p q r t u some = moment_written s t
by_form s false false false false true p q r t u some = time_written s u
by_form s false false false false false p q r t u some = absurd (true≢false (sym some))

pub all_written : (s : List ℕ) (f : Fields) → fields_of s ≡ Some f → IsWritten s
all_written s f read =
    by_form s (is_year_text s) (is_month_text s) (is_day_text s) (is_instant s) (is_time s) refl refl refl refl refl
    (sym (which s) ∙ ap is_some read)
