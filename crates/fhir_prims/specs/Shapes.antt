-- Texts of a fixed form, and the digits at their places.
use Rattle.std.specs.Prelude.{ℕ, ◌+◌, ◌-◌, ◌*◌, length, slice_index, Bool, ◌&&◌, ◌==◌, if◌then◌else◌}
use Rattle.std.specs.List.{list_all, zip}
use Rattle.std.specs.Char.{is_ascii_digit}
use Rattle.fhir_json.specs.Tree.{Text}
use Rattle.fhir_json.specs.Bytes.{digit_zero, letter_h}
use Rattle.fhir_prims.specs.Bytes.{is_lowercase_hexdigit}

-- in a shape `0` stands for a digit, `h` for a hexadecimal digit, and each other byte for itself
abbrev pub fits : ℕ → ℕ → Bool
fits mark b = if mark == digit_zero then is_ascii_digit b else (if mark == letter_h then is_lowercase_hexdigit b else b == mark)

abbrev pub all_fit : Text → Text → Bool
all_fit shape s = list_all (λ p. fits p.0 p.1) (zip shape s)

-- the text has the shape, byte by byte
abbrev pub has_shape : Text → Text → Bool
has_shape shape s = (length shape == length s) && all_fit shape s

-- the digit at a place
abbrev pub digit_at : Text → ℕ → ℕ
digit_at s place = slice_index s place - digit_zero

-- the number that two digits write
abbrev pub pair_at : Text → ℕ → ℕ
pair_at s place = 10 * digit_at s place + digit_at s (place + 1)
