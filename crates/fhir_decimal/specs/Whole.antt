-- Whole numbers among the values of decimals.
use Rattle.std.specs.Prelude.{ℕ, ◌*◌, ◌^◌, ◌%◌, pos, nat_abs, nat_eq, Bool}
use Rattle.fhir_decimal.specs.Value.{Value}

-- the value of a count
abbrev pub count : ℕ → Value
count n = record { mantissa = pos n; up = 0; down = 0 }

-- nothing is left behind the point
unfoldable pub is_whole_value : Value → Bool
is_whole_value v = nat_eq ((nat_abs v.mantissa * 10 ^ v.up) % 10 ^ v.down) 0
