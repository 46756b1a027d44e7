-- The exponent of a decimal.
use Rattle.std.proofs.Common.{◌≡◌, ℕ, zero, suc, ◌+◌, ◌-◌, ◌<◌, ◌≤◌, Bool, true, false, List, [], ◌++◌, length, codes, refl, sym, ap, ◌∙◌, arith}
use Rattle.std.specs.Prelude.{nat_abs, if◌then◌else◌}
use Rattle.std.proofs.lemmas.Bool.{lt-leb, le-leb}
use Rattle.fhir_decimal.specs.Text.{Parts, unsigned_parts}
use Rattle.fhir_decimal.specs.Value.{integer_of, number_of, value_of}
use Rattle.fhir_number_keys.specs.Digits.{digits_of, written}
use Rattle.fhir_number_keys.specs.Keys.{sign_of, exponent_key, key_with}

pub above : (far up down n : ℕ) → down ≤ far + up → n ≡ (far + up) - down → codes "+" ++ written (digits_of n) ≡ exponent_key far up down
unfolding exponent_key
above far up down n h is = rw (le-leb down (far + up) h) (ap (λ k. codes "+" ++ written (digits_of k)) is)

pub below : (far up down n : ℕ) → far + up < down → n ≡ (far + down) - up → codes "-" ++ written (digits_of n) ≡ exponent_key far up down
unfolding exponent_key
below far up down n h is = rw (lt-leb down (far + up) h) (ap (λ k. codes "-" ++ written (digits_of k)) is)

pub raising : (p : Parts) → p.lowers ≡ false → ((value_of p).up ≡ number_of p.exponent) × ((value_of p).down ≡ length p.fraction)
unfolding value_of
raising p h = (rw h refl, rw h (omega arith))

pub lowering : (p : Parts) → p.lowers ≡ true → ((value_of p).up ≡ 0) × ((value_of p).down ≡ length p.fraction + number_of p.exponent)
unfolding value_of
lowering p h = (rw h refl, rw h refl)

-- the sign of 0 is of no use
pub signed : (far : ℕ) (negative : Bool) (n up down : ℕ) (ds : List ℕ) → ds ≡ digits_of n
    → key_with far (if negative then codes "-" else codes "+") ds up down ≡ key_with far (sign_of (integer_of negative n)) (digits_of (nat_abs (integer_of negative n))) up down
unfolding digits_of
signed far true zero up down ds is = ap (λ es. key_with far (codes "-") es up down) (is ∙ no_digits) ∙ ap (λ es. key_with far (codes "+") es up down) (sym no_digits)
  where
    no_digits : digits_of 0 ≡ []
    no_digits = refl
signed far true (suc n) up down ds is = ap (λ es. key_with far (codes "-") es up down) is
signed far false n up down ds is = ap (λ es. key_with far (codes "+") es up down) is

-- a count's: no sign, no point and no exponent
pub counted : (far n : ℕ) (p : Parts) (ds : List ℕ) → p ≡ unsigned_parts [] [] → ds ≡ digits_of n
    → key_with far (if p.negative then codes "-" else codes "+") ds (value_of p).up (value_of p).down ≡ key_with far (codes "+") (digits_of n) 0 0
unfolding value_of
counted far n p ds none is =
    ap (λ (q : Parts). key_with far (if q.negative then codes "-" else codes "+") ds (value_of q).up (value_of q).down) none ∙ ap (λ es. key_with far (codes "+") es 0 0) is
