-- The texts of numbers (FHIR R4, Data Types, integer, unsignedInt, positiveInt, decimal). The standard's expressions for
-- integer and positiveInt take a `+` too, with which no JSON number begins.
use Rattle.std.specs.Prelude.{ℕ, length, slice_index, drop, Bool, ◌&&◌, ◌||◌, ◌==◌, nat_le, nat_lt, is_some}
use Rattle.std.specs.Char.{is_ascii_digit}
use Rattle.std.specs.List.{list_all}
use Rattle.fhir_json.specs.Tree.{Text}
use Rattle.fhir_json.specs.Bytes.{minus, digit_zero}
use Rattle.fhir_decimal.specs.Value.{number_of}
use Rattle.fhir_decimal.specs.Reading.{parts}

-- digits alone, whose number is at most `most`
abbrev pub are_digits_to : ℕ → Text → Bool
are_digits_to most s = list_all is_ascii_digit s && nat_le (number_of s) most

-- `[1-9][0-9]*`, at most `most`
abbrev pub is_positive_to : ℕ → Text → Bool
is_positive_to most s = nat_lt digit_zero (slice_index s 0) && are_digits_to most s

-- `0`
abbrev pub is_zero : Text → Bool
is_zero s = (length s == 1) && (slice_index s 0 == digit_zero)

-- `-[1-9][0-9]*`, at least `-most`
abbrev pub is_negative_to : ℕ → Text → Bool
is_negative_to most s = (slice_index s 0 == minus) && is_positive_to most (drop 1 s)

-- `[1-9][0-9]*`, to 2147483647
abbrev pub is_positive_int : Text → Bool
is_positive_int s = is_positive_to 2147483647 s

-- `0|[1-9][0-9]*`, to 2147483647
abbrev pub is_unsigned_int : Text → Bool
is_unsigned_int s = is_zero s || is_positive_to 2147483647 s

-- `0|-?[1-9][0-9]*`, from -2147483648 to 2147483647
abbrev pub is_integer : Text → Bool
is_integer s = is_zero s || is_positive_to 2147483647 s || is_negative_to 2147483648 s

-- `-?(0|[1-9][0-9]*)(\.[0-9]+)?([eE][+-]?[0-9]+)?`, which has parts
abbrev pub is_decimal : Text → Bool
is_decimal s = is_some (parts s)
