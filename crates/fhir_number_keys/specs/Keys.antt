-- Keys: texts that numbers of one value have in common, and no others.
use Rattle.std.specs.Prelude.{ℕ, ◌+◌, ◌-◌, ◌^◌, ℤ, pos, negsuc, nat_abs, nat_le, List, [], ◌∷◌, ◌++◌, drop, codes, if◌then◌else◌}
use Rattle.fhir_json.specs.Tree.{Text}
use Rattle.fhir_decimal.specs.Value.{Value}
use Rattle.fhir_number_keys.specs.Digits.{digits_of, zeros_in, written}

abbrev pub sign_of : ℤ → Text
sign_of (pos n) = codes "+"
sign_of (negsuc n) = codes "-"

-- the exponent `up - down` of ten: how far it is above `- far`, or else how far its opposite is
unfoldable pub exponent_key : ℕ → ℕ → ℕ → Text
exponent_key far up down =
    if nat_le down (far + up) then codes "+" ++ written (digits_of ((far + up) - down)) else codes "-" ++ written (digits_of ((far + down) - up))

-- of a sign, the digits of a mantissa and its exponent. The zeros at the end of a mantissa raise the exponent
abbrev pub key_with : ℕ → Text → List ℕ → ℕ → ℕ → Text
key_with far sign [] up down = codes "0"
key_with far sign (d ∷ ds) up down =
    let zeros = zeros_in (d ∷ ds) in
    sign ++ (written (drop zeros (d ∷ ds)) ++ exponent_key far (zeros + up) down)

-- more than the lengths of any two texts
abbrev pub far : ℕ
far = 2 ^ 66

unfoldable pub key_of : Value → Text
key_of v = key_with far (sign_of v.mantissa) (digits_of (nat_abs v.mantissa)) v.up v.down
