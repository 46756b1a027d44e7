-- Counts and integers are written as numbers of JSON.
use Rattle.std.proofs.Common.{◌≡◌, ◌≤◌, ◌<◌, ◌^◌, ℕ, suc, ℤ, List, [], ◌∷◌, true, false, Some, IsTrue, refl, arith}
use Rattle.std.specs.Prelude.{pos, negsuc, ◌==◌}
use Rattle.std.specs.Fmt.{decimal, signed_decimal}
use Rattle.std.specs.List.{list_all}
use Rattle.std.specs.Char.{is_ascii_digit}
use Rattle.std.specs.Str.{is_utf8}
use Rattle.std.proofs.lemmas.Bool.{and_parts, false≢true}
use Rattle.std.proofs.lemmas.Fmt.{IsAscii-decimal}
use Rattle.fhir_json.specs.Number.{after_digits, after_minus, after_whole, after_number, is_number}
use Rattle.fhir_json.specs.Fields.{is_count_text}
use Rattle.fhir_elements.specs.declared.max.Max.{Max}
use Rattle.fhir_elements.specs.declared.max.Max.TheVariants.{Unbounded, UpTo}
use Rattle.fhir_overlay.specs.Json.{max_code}
use Rattle.fhir_overlay.specs.Writable.{is_count, is_max, is_integer}
use Rattle.fhir_overlay.proofs.Numbers.{begins, small_count}
use Rattle.fhir_overlay.proofs.Objects.{ascii_utf8, plain_utf8}

digits_passed : (s : List ℕ) → list_all is_ascii_digit s ≡ true → after_digits s ≡ []
digits_passed [] h = refl
digits_passed (b ∷ bs) h =
    let parts = and_parts (is_ascii_digit b) (list_all is_ascii_digit bs) h in rw parts.0 (digits_passed bs parts.1)

-- a count's digits are a whole number
whole : (s : List ℕ) → is_count_text s ≡ true → after_whole s ≡ Some []
whole [] h = absurd (false≢true h)
whole (b ∷ []) h =
    let parts = and_parts (list_all is_ascii_digit (b ∷ [])) _ h in
    let digit : is_ascii_digit b ≡ true = (and_parts (is_ascii_digit b) true parts.0).0 in grind arith
whole (b ∷ c ∷ cs) h =
    let parts = and_parts (list_all is_ascii_digit (b ∷ c ∷ cs)) _ h in
    let digit = and_parts (is_ascii_digit b) (list_all is_ascii_digit (c ∷ cs)) parts.0 in
    let passed : after_digits (c ∷ cs) ≡ [] = digits_passed (c ∷ cs) digit.1 in
    let first : (b == 48) ≡ false = grind arith in
    rw (first, digit.0, passed) refl

no_minus : (s : List ℕ) → is_count_text s ≡ true → after_minus s ≡ s
no_minus [] h = refl
no_minus (b ∷ bs) h = grind arith

count_number : (s : List ℕ) → is_count_text s ≡ true → IsTrue (is_number s)
unfolding after_number
count_number s h = rw (no_minus s h, whole s h) refl

minus_number : (s : List ℕ) → is_count_text s ≡ true → IsTrue (is_number (45 ∷ s))
unfolding after_number
minus_number s h = rw (whole s h) refl

pub count_sound : (n : ℕ) → IsTrue (is_count n) → IsTrue (is_number (decimal n))
count_sound n small =
    let le : n ≤ 2147483647 = small_count n small in
    let lt : n < 2 ^ 64 = omega arith in
    count_number (decimal n) (begins n lt)

pub integer_sound : (z : ℤ) → IsTrue (is_integer z) → IsTrue (is_number (signed_decimal z))
integer_sound (pos n) small = count_sound n small
integer_sound (negsuc n) small =
    let le : n ≤ 2147483647 = small_count n small in
    let lt : suc n < 2 ^ 64 = omega arith in
    minus_number (decimal (suc n)) (begins (suc n) lt)

pub max_sound : (m : Max) → IsTrue (is_max m) → IsTrue (is_utf8 (max_code m))
max_sound Unbounded small = plain_utf8 (max_code Unbounded) refl
max_sound (UpTo n) small =
    let le : n ≤ 2147483647 = small_count n small in
    let lt : n < 2 ^ 64 = omega arith in
    ascii_utf8 (decimal n) (IsAscii-decimal n lt)
