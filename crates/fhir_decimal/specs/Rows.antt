-- Two whole numbers, digit by digit, and how far the first is above the second (used by private contracts alone).
use Rattle.std.specs.Prelude.{ℕ, ◌+◌, ◌-◌, ◌*◌, ◌^◌, length, slice_index, Bool, ◌++◌, if◌then◌else◌, min, nat_lt}
use Rattle.fhir_json.specs.Tree.{Text}
use Rattle.fhir_decimal.specs.Value.{digit_value, number_of}
use Rattle.fhir_decimal.specs.declared.rows.Row.{Row}

-- the digits, and the number that they write
abbrev pub digits_in : Row → Text
digits_in r = r.front.now ++ r.back.now

unfoldable pub number_in : Row → ℕ
number_in r = number_of (digits_in r) * 10 ^ r.zeros

-- how many places the number has
abbrev pub places_in : Row → ℕ
places_in r = length r.front.now + length r.back.now + r.zeros

-- the digit at a place from the left, and 0 behind the digits
abbrev pub digit_in : Text → ℕ → ℕ
digit_in ds place = digit_value (slice_index ds place)

-- the same where the digits begin at a place
abbrev pub digit_from : ℕ → Text → ℕ → ℕ
digit_from start ds place = if nat_lt place start then 0 else digit_in ds (place - start)

-- `far` and how much x is above y, as far as `far` both ways
unfoldable pub apart : ℕ → ℕ → ℕ → ℕ
apart far x y = min (2 * far) ((far + x) - y)

-- that for one digit more on each side, which come as 18 and how much the first is above the second
abbrev pub next_apart : ℕ → ℕ → ℕ → ℕ
next_apart far apart tilts = min (2 * far) ((10 * apart + tilts) - (9 * far + 18))

-- the numbers on the side of the first where they are signed: its own and, where the second is negative, that one's
abbrev pub sum_over : Bool → ℕ → Bool → ℕ → ℕ
sum_over negative x other_negative y = (if negative then 0 else x) + (if other_negative then y else 0)

-- how far the first signed number is above the second
abbrev pub signed_apart : ℕ → Bool → ℕ → Bool → ℕ → ℕ
signed_apart far s x t y = apart far (sum_over s x t y) (sum_over t y s x)
