-- Digits that are parsed, and don't fit.
use Rattle.std.proofs.Common.{◌≡◌, ℕ, ◌<◌, ◌^◌, List, [], ◌∷◌, length, true, None, Err, arith, rules}
use Rattle.std.specs.List.{list_all}
use Rattle.std.specs.Char.{is_ascii_digit}
use Rattle.std.specs.Str.Parse.{ParsesUnsigned, digits_value}
use Rattle.std.proofs.lemmas.Bool.{and_parts, false≢true}
use Rattle.std.proofs.lemmas.Str.Parse.{IsNumeralModel, numerals_by_value, parse_digits}
use Rattle.fhir_json.specs.Fields.{is_count_text, most_count, count_of}

digits : IsNumeralModel (λ ds. list_all is_ascii_digit ds ≡ true) (digits_value 10)
digits = numerals_by_value _ (search rules)

filled : (text : List ℕ) → is_count_text text ≡ true → 0 < length text
filled [] is = absurd (false≢true is)
filled (b ∷ bs) is = omega arith

not_small : (E : Type 0) (text : List ℕ) (e : E) → is_count_text text ≡ true → ParsesUnsigned {E = E} 32 10 text (Err e) → digits_value 10 text < 2 ^ 32 → ⊥
not_small E text e is h small =
    parse_digits digits 32 text (Err e) h (and_parts (list_all is_ascii_digit text) _ is).0 (filled text is, small)

pub unparsed : (E : Type 0) (text : List ℕ) (e : E) → is_count_text text ≡ true → ParsesUnsigned {E = E} 32 10 text (Err e) → None ≡ count_of text
unparsed E text e is h =
    let large : most_count < digits_value 10 text = omega (arith, not_small E text e is h) in grind arith
