-- What a decimal means, and the order of such meanings.
use Rattle.std.specs.Prelude.{ℕ, ◌+◌, ◌-◌, ◌*◌, ◌^◌, ℤ, pos, neg_ℤ, ◌*ℤ◌, [], ◌∷◌, ◌++◌, length, Bool, if◌then◌else◌}
use Rattle.std.specs.declared.cmp.Ordering.{Ordering}
use Rattle.std.specs.Ordering.{int_cmp, is_eq}
use Rattle.std.specs.Char.{is_ascii_digit}
use Rattle.fhir_json.specs.Tree.{Text}
use Rattle.fhir_json.specs.Bytes.{digit_zero}
use Rattle.fhir_decimal.specs.Text.{Parts}

-- `mantissa * 10 ^ up / 10 ^ down`
pub record Value : Type 0 where
  pub mantissa : ℤ
  pub up : ℕ
  pub down : ℕ

-- a digit's value. Another byte has none, and stands in no decimal
abbrev pub digit_value : ℕ → ℕ
digit_value b = if is_ascii_digit b then b - digit_zero else 0

-- the number that digits write
abbrev pub number_of : Text → ℕ
number_of [] = 0
number_of (d ∷ ds) = digit_value d * 10 ^ length ds + number_of ds

abbrev pub integer_of : Bool → ℕ → ℤ
integer_of negative n = if negative then neg_ℤ (pos n) else pos n

-- the digits without the point, times ten to the exponent less the number of digits behind the point
unfoldable pub value_of : Parts → Value
value_of p = record {
  mantissa = integer_of p.negative (number_of (p.whole ++ p.fraction));
  up = if p.lowers then 0 else number_of p.exponent;
  down = length p.fraction + (if p.lowers then number_of p.exponent else 0);
}

-- the value times `10 ^ (v.down + more)`, which is whole
abbrev pub whole_value : Value → ℕ → ℤ
whole_value v more = v.mantissa *ℤ pos (10 ^ (v.up + more))

-- the order of both values times `10 ^ (a.down + b.down)`
unfoldable pub value_order : Value → Value → Ordering
value_order a b = int_cmp (whole_value a b.down) (whole_value b a.down)

-- values that are one
abbrev pub is_same_value : Value → Value → Bool
is_same_value a b = is_eq (value_order a b)
