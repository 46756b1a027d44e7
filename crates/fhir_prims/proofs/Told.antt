-- Which texts say something.
use Rattle.std.proofs.Common.{◌≡◌, refl, List, ℕ, Bool, true, false, ◌||◌, Some, None}
use Rattle.std.specs.Prelude.{if◌then◌else◌, is_some}
use Rattle.fhir_prims.specs.Moments.{is_date, is_date_time, is_instant, is_time, is_year_text, is_month_text, is_day_text}
use Rattle.fhir_prims.specs.Reading.{fields_of}

one_of : {X : Type 0} (y m d i t : Bool) (a b c e f : X)
    → is_some (if y then Some a else (if m then Some b else (if d then Some c else (if i then Some e else (if t then Some f else None)))))
    ≡ ((y || m || d) || (y || m || d || i) || i || t)
one_of true m d i t a b c e f = refl
one_of false true d i t a b c e f = refl
one_of false false true i t a b c e f = refl
one_of false false false true t a b c e f = refl
one_of false false false false true a b c e f = refl
one_of false false false false false a b c e f = refl

pub which : (s : List ℕ) → is_some (fields_of s) ≡ (is_date s || is_date_time s || is_instant s || is_time s)
which s = one_of (is_year_text s) (is_month_text s) (is_day_text s) (is_instant s) (is_time s) _ _ _ _ _
