-- The parts of a decimal's text, from left to right.
use Rattle.std.specs.Prelude.{[], ◌∷◌, Bool, false, ◌||◌, ◌==◌, take, drop, if◌then◌else◌, Option, Some, None, option_and_then}
use Rattle.std.specs.List.{prefix_len}
use Rattle.std.specs.Char.{is_ascii_digit}
use Rattle.fhir_json.specs.Tree.{Text}
use Rattle.fhir_json.specs.Bytes.{plus, minus, dot, letter_E, letter_e, is_empty}
use Rattle.fhir_decimal.specs.Text.{Parts, are_digits, is_whole}

abbrev pub digits_of : Text → Text
digits_of bs = take (prefix_len is_ascii_digit bs) bs

abbrev pub after_digits : Text → Text
after_digits bs = drop (prefix_len is_ascii_digit bs) bs

abbrev pub is_negative : Text → Bool
is_negative [] = false
is_negative (b ∷ bs) = b == minus

abbrev pub after_minus : Text → Text
after_minus [] = []
after_minus (b ∷ bs) = if b == minus then bs else b ∷ bs

-- digits and what follows, where there are digits
abbrev pub digits_and_rest : Text → Text → Option (Text × Text)
digits_and_rest digits rest = if is_empty digits then None else Some (digits, rest)

abbrev pub cut_some_digits : Text → Option (Text × Text)
cut_some_digits bs = digits_and_rest (digits_of bs) (after_digits bs)

abbrev pub cut_fraction : Text → Option (Text × Text)
cut_fraction [] = Some ([], [])
cut_fraction (b ∷ bs) = if b == dot then cut_some_digits bs else Some ([], b ∷ bs)

abbrev pub lowers : Text → Bool
lowers [] = false
lowers (b ∷ bs) = b == minus

abbrev pub after_sign : Text → Text
after_sign [] = []
after_sign (b ∷ bs) = if (b == minus) || (b == plus) then bs else b ∷ bs

abbrev pub signed_digits : Text → Option (Bool × Text)
signed_digits bs = if are_digits (after_sign bs) then Some (lowers bs, after_sign bs) else None

abbrev pub cut_exponent : Text → Option (Bool × Text)
cut_exponent [] = Some (false, [])
cut_exponent (b ∷ bs) = if (b == letter_e) || (b == letter_E) then signed_digits bs else None

-- the parts, where the digits before the point and the exponent are right
abbrev pub parts_with : Bool → Text → Text → Bool × Text → Option Parts
parts_with negative whole fraction exponent =
    if is_whole whole then Some (record { negative = negative; whole = whole; fraction = fraction; lowers = exponent.0; exponent = exponent.1 }) else None

abbrev pub parts_behind : Bool → Text → Text × Text → Option Parts
parts_behind negative whole fraction = option_and_then (parts_with negative whole fraction.0) (cut_exponent fraction.1)

-- a text's parts, where it is a decimal's
unfoldable pub parts : Text → Option Parts
parts bs = option_and_then (parts_behind (is_negative bs) (digits_of (after_minus bs))) (cut_fraction (after_digits (after_minus bs)))
