-- Whole numbers, and how they are written.
use Rattle.std.proofs.Common.{◌≡◌, ◌∙◌, ◌↔◌, ap, ap₂, refl, sym, rules, ℕ, suc, ◌-◌, ◌^◌, ◌<◌, ◌≤◌, List, [], ◌∷◌, length, slice_index, drop, true, true≢false}
use Rattle.std.proofs.Common.{◌||◌, ◌==◌, nat_le, nat_lt, inl, inr, arith}
use Rattle.std.specs.Prelude.{ℤ, pos, negsuc, FitsSigned}
use Rattle.std.specs.Int.{w32}
use Rattle.std.specs.Fmt.{decimal, signed_decimal}
use Rattle.std.proofs.lemmas.Str.Parse.{IsNumeralModel, numerals_by_weight}
use Rattle.std.proofs.lemmas.Fmt.{decimal_digit, first_decimal, digits_decimal, digits_value-decimal, decimal-digits_value}
use Rattle.std.proofs.lemmas.Bool.{and_parts, and_from, or_cases, or_left, or_right, leb-true, le-leb, ltb-true, lt-ltb, eqb-true, cases_lt}
use Rattle.std.specs.Char.{is_ascii_digit}
use Rattle.std.specs.List.{list_all}
use Rattle.fhir_decimal.specs.Value.{number_of}
use Rattle.fhir_prims.specs.Numbers.{are_digits_to, is_positive_to, is_zero, is_negative_to, is_positive_int, is_unsigned_int, is_integer}

own : IsNumeralModel (λ ds. list_all is_ascii_digit ds ≡ true) number_of
own = numerals_by_weight (λ ds. list_all is_ascii_digit ds ≡ true) (search rules) number_of (search rules)

-- ---- positive numbers

pub record IsPositive (most : ℕ) (s : List ℕ) : Type 0 where
  pub number : ℕ
  pub least : 1 ≤ number
  pub small : number ≤ most
  pub text : s ≡ decimal number

above : (n : ℕ) (s : List ℕ) → n < 1 → 48 < slice_index s 0 → decimal n ≡ s → ⊥
above n s none first same =
    let zero : n ≡ 0 = omega arith in
    let digit : slice_index s 0 ≡ 48 = ap (λ t. slice_index t 0) (sym same ∙ ap decimal zero ∙ decimal_digit 0 (omega arith)) in
    omega arith

from_one : (n : ℕ) → (n < 1 → ⊥) → 1 ≤ n
from_one n some = elim (cases_lt n 1) [ inl none ↦ absurd (some none) | inr more ↦ more ]

some_digits : (s : List ℕ) → 48 < slice_index s 0 → 0 < length s
some_digits [] first = absurd (omega arith)
some_digits (b ∷ bs) first = omega arith

positive : (most : ℕ) (s : List ℕ) → most < 2 ^ 64 → is_positive_to most s ≡ true → IsPositive most s
positive most s fits is =
    let whole = and_parts (nat_lt 48 (slice_index s 0)) (are_digits_to most s) is in
    let parts = and_parts (list_all is_ascii_digit s) (nat_le (number_of s) most) whole.1 in
    let first = ltb-true 48 (slice_index s 0) whole.0 in
    let small = leb-true (number_of s) most parts.1 in
    let again : decimal (number_of s) ≡ s = decimal-digits_value own s parts.0 (some_digits s first) (λ zero. absurd (omega arith)) (omega arith) in
    record { number = number_of s; least = from_one (number_of s) (λ none. above (number_of s) s none first again); small = small; text = sym again }

pub positive_back : (most : ℕ) (s : List ℕ) → most < 2 ^ 64 → IsPositive most s → is_positive_to most s ≡ true
positive_back most s fits is =
    let n = is.number in
    let least = is.least in
    let small = is.small in
    let narrow : n < 2 ^ 64 = omega arith in
    let digits : list_all is_ascii_digit (decimal n) ≡ true = digits_decimal own n narrow in
    let value : number_of (decimal n) ≡ n = digits_value-decimal own n narrow in
    let first : 48 < slice_index (decimal n) 0 = first_decimal n (omega arith) narrow in
    ap (is_positive_to most) is.text
    ∙ and_from (nat_lt 48 (slice_index (decimal n) 0)) (are_digits_to most (decimal n)) (lt-ltb 48 (slice_index (decimal n) 0) first)
    (and_from (list_all is_ascii_digit (decimal n)) (nat_le (number_of (decimal n)) most) digits (le-leb (number_of (decimal n)) most (omega arith)))

-- ---- zero

zero_text : (s : List ℕ) → is_zero s ≡ true → s ≡ decimal 0
zero_text [] is = absurd (true≢false (sym is))
zero_text (b ∷ []) is = ap (λ k. k ∷ []) (eqb-true b 48 (and_parts (length (b ∷ []) == 1) (b == 48) is).1) ∙ sym (decimal_digit 0 (omega arith))
zero_text (b ∷ (d ∷ bs)) is =
    let one = eqb-true (length (b ∷ (d ∷ bs))) 1 (and_parts (length (b ∷ (d ∷ bs)) == 1) (b == 48) is).0 in
    absurd (omega arith)

zero_back : (s : List ℕ) → s ≡ decimal 0 → is_zero s ≡ true
zero_back s same = ap is_zero (same ∙ decimal_digit 0 (omega arith))

-- ---- the types

abbrev bound : ℕ
bound = 2147483647

pub positive_is : (s : List ℕ) → (is_positive_int s ≡ true) ↔ ((n : ℕ) × (0 < n) × (n < 2 ^ 31) × (s ≡ decimal n))
positive_is s = (there, back)
  where
    there : is_positive_int s ≡ true → (n : ℕ) × (0 < n) × (n < 2 ^ 31) × (s ≡ decimal n)
    there is =
        let p = positive bound s (omega arith) is in
        let least = p.least in
        let small = p.small in
        (p.number, omega arith, omega arith, p.text)

    back : ((n : ℕ) × (0 < n) × (n < 2 ^ 31) × (s ≡ decimal n)) → is_positive_int s ≡ true
    back (n, some, small, text) = positive_back bound s (omega arith) (record { number = n; least = omega arith; small = omega arith; text = text })

natural_back : (n : ℕ) (s : List ℕ) → n < 2 ^ 31 → s ≡ decimal n → (is_zero s || is_positive_to bound s) ≡ true
natural_back n s small text = elim (cases_lt 0 n) [
  | inl some ↦
      let is : IsPositive bound s = record { number = n; least = omega arith; small = omega arith; text = text } in
      or_right (is_zero s) (is_positive_to bound s) (positive_back bound s (omega arith) is)
  | inr none ↦
      let zero : n ≡ 0 = omega arith in
      or_left (is_zero s) (is_positive_to bound s) (zero_back s (text ∙ ap decimal zero))
]

natural : (s : List ℕ) → (is_zero s || is_positive_to bound s) ≡ true → (n : ℕ) × (n < 2 ^ 31) × (s ≡ decimal n)
natural s is = elim (or_cases (is_zero s) (is_positive_to bound s) is) [
  | inl zero ↦ (0, omega arith, zero_text s zero)
  | inr more ↦
      let p = positive bound s (omega arith) more in
      let small = p.small in
      (p.number, omega arith, p.text)
]

pub unsigned_is : (s : List ℕ) → (is_unsigned_int s ≡ true) ↔ ((n : ℕ) × (n < 2 ^ 31) × (s ≡ decimal n))
unsigned_is s = (natural s, λ (n, small, text). natural_back n s small text)

headed : (s : List ℕ) (rest : List ℕ) → slice_index s 0 ≡ 45 → drop 1 s ≡ rest → s ≡ 45 ∷ rest
headed [] rest first behind = absurd (omega arith)
headed (b ∷ bs) rest first behind = ap₂ ◌∷◌ first behind

negative : (s : List ℕ) → is_negative_to (suc bound) s ≡ true → (z : ℤ) × FitsSigned w32 z × (s ≡ signed_decimal z)
negative s is =
    let parts = and_parts (slice_index s 0 == 45) (is_positive_to (suc bound) (drop 1 s)) is in
    let p = positive (suc bound) (drop 1 s) (omega arith) parts.1 in
    let least = p.least in
    let small = p.small in
    let n = p.number - 1 in
    let same : p.number ≡ suc n = omega arith in
    let fits : FitsSigned w32 (negsuc n) = record { sfits = omega arith } in
    (negsuc n, fits, headed s (decimal (suc n)) (eqb-true (slice_index s 0) 45 parts.0) (p.text ∙ ap decimal same))

integer_there : (s : List ℕ) → is_integer s ≡ true → (z : ℤ) × FitsSigned w32 z × (s ≡ signed_decimal z)
integer_there s is = elim (or_cases (is_zero s || is_positive_to bound s) (is_negative_to (suc bound) s) is) [
  | inl upper ↦
      let found = natural s upper in
      let small = found.1 in
      let fits : FitsSigned w32 (pos found.0) = record { sfits = omega arith } in
      (pos found.0, fits, found.2)
  | inr lower ↦ negative s lower
]

integer_back : (s : List ℕ) (z : ℤ) → FitsSigned w32 z → s ≡ signed_decimal z → is_integer s ≡ true
integer_back s (pos n) fits text =
    let small = fits.sfits in
    or_left (is_zero s || is_positive_to bound s) (is_negative_to (suc bound) s) (natural_back n s (omega arith) text)
integer_back s (negsuc n) fits text =
    let small = fits.sfits in
    let digits = positive_back (suc bound) (decimal (suc n)) (omega arith) (record { number = suc n; least = omega arith; small = omega arith; text = refl }) in
    or_right (is_zero s || is_positive_to bound s) (is_negative_to (suc bound) s) (ap (is_negative_to (suc bound)) text ∙ digits)

pub integer_is : (s : List ℕ) → (is_integer s ≡ true) ↔ ((z : ℤ) × FitsSigned w32 z × (s ≡ signed_decimal z))
integer_is s = (integer_there s, λ (z, fits, text). integer_back s z fits text)
