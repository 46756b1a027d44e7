-- Whole numbers from -2147483648 to 2147483647 (FHIR R4, Data Types, integer).
use Rattle.std.specs.Prelude.{[], ◌∷◌, Option, codes, ℕ, zero, suc, ℤ, pos, negsuc, ◌==◌, None, Some, if◌then◌else◌}
use Rattle.std.specs.Str.{bytes_eq}
use Rattle.fhir_json.specs.Tree.{Text, Tree}
use Rattle.std.specs.Option.{option_map, option_and_then}
use Rattle.fhir_json.specs.Fields.{as_number, count_of}

-- a whole number from -2147483648 to 2147483647 (FHIR R4, Data Types, integer)
abbrev pub negative_of : ℕ → Option ℤ
negative_of zero = None
negative_of (suc n) = Some (negsuc n)

abbrev pub below_zero : Text → Option ℤ
below_zero s =
    if bytes_eq s (codes "2147483648") then Some (negsuc 2147483647) else option_and_then negative_of (count_of s)

abbrev pub integer_of : Text → Option ℤ
integer_of [] = None
integer_of (b ∷ bs) = if b == 45 then below_zero bs else option_map pos (count_of (b ∷ bs))

abbrev pub as_integer : Tree → Option ℤ
as_integer t = option_and_then integer_of (as_number t)
