-- The number that a literal writes (FHIRPath N1, section 4.1.3): digits, and a point with digits, if there is one.
use Rattle.std.specs.Prelude.{take, drop}
use Rattle.std.specs.Char.{is_ascii_digit}
use Rattle.std.specs.List.{prefix_len}
use Rattle.fhir_json.specs.Tree.{Text}
use Rattle.fhir_decimal.specs.Text.{unsigned_parts}
use Rattle.fhir_decimal.specs.Value.{Value, value_of}

-- the digits before the point
abbrev pub whole_digits : Text → Text
whole_digits s = take (prefix_len is_ascii_digit s) s

-- and those behind it
abbrev pub fraction_digits : Text → Text
fraction_digits s = drop 1 (drop (prefix_len is_ascii_digit s) s)

abbrev pub literal_value : Text → Value
literal_value s = value_of (unsigned_parts (whole_digits s) (fraction_digits s))
