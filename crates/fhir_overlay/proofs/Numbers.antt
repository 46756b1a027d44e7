-- Numbers and codes that are written, and read again.
use Rattle.std.proofs.Common.{◌≡◌, ◌≢◌, ◌≤◌, ◌<◌, ◌^◌, ℕ, zero, suc, ℤ, List, [], ◌∷◌, Bool, true, false, Some, refl, arith, rules, codes, nat_le, ap, sym, ◌∙◌, lit<, get_or, IsTrue}
use Rattle.std.specs.Prelude.{pos, negsuc}
use Rattle.std.specs.Fmt.{decimal, signed_decimal}
use Rattle.std.specs.List.{list_all}
use Rattle.std.specs.Option.{option_map}
use Rattle.std.specs.Char.{is_ascii_digit}
use Rattle.std.specs.Str.{bytes_eq}
use Rattle.std.specs.Str.Parse.{digits_value}
use Rattle.std.proofs.lemmas.Bool.{false≢true}
use Rattle.std.proofs.lemmas.Slice.Eq.{bytes_eq-Decides}
use Rattle.std.proofs.lemmas.Str.Parse.{IsNumeralModel, numerals_by_value}
use Rattle.std.proofs.lemmas.Fmt.{digits_decimal, digits_value-decimal, decimal_digit, first_decimal, decimal-digits_value}
use Rattle.fhir_json.specs.Fields.{is_count_text, most_count, count_of}
use Rattle.fhir_elements.specs.declared.max.Max.{Max}
use Rattle.fhir_elements.specs.declared.max.Max.TheVariants.{Unbounded, UpTo}
use Rattle.fhir_elements.specs.Max.{max_of}
use Rattle.fhir_elements.specs.Integers.{below_zero, integer_of}
use Rattle.fhir_overlay.specs.Json.{max_code}
use Rattle.fhir_overlay.specs.Writable.{is_count, is_max, is_integer}

numerals : IsNumeralModel (λ ds. list_all is_ascii_digit ds ≡ true) (digits_value 10)
numerals = numerals_by_value _ (search rules)

pub all_digits : (n : ℕ) → n < 2 ^ 64 → list_all is_ascii_digit (decimal n) ≡ true
all_digits n small = digits_decimal numerals n small

value_of : (n : ℕ) → n < 2 ^ 64 → digits_value 10 (decimal n) ≡ n
value_of n small = digits_value-decimal numerals n small

pub begins : (n : ℕ) → n < 2 ^ 64 → is_count_text (decimal n) ≡ true
begins zero small = rw (decimal_digit 0 (lit< tt)) refl
begins (suc n) small =
    let first : 48 < get_or (decimal (suc n)) 0 0 = first_decimal (suc n) (omega arith) small in
    let digits : list_all is_ascii_digit (decimal (suc n)) ≡ true = all_digits (suc n) small in
    grind arith

counted : (text : List ℕ) (n : ℕ) → is_count_text text ≡ true → digits_value 10 text ≡ n → nat_le n most_count ≡ true → count_of text ≡ Some n
counted text n is value small = grind arith

pub small_count : (n : ℕ) → IsTrue (is_count n) → n ≤ 2147483647
small_count n small = grind arith

pub count_again : (n : ℕ) → IsTrue (is_count n) → count_of (decimal n) ≡ Some n
count_again n small =
    let le : n ≤ 2147483647 = small_count n small in
    let lt : n < 2 ^ 64 = omega arith in
    counted (decimal n) n (begins n lt) (value_of n lt) small

no_star : (text : List ℕ) → is_count_text text ≡ true → bytes_eq text (codes "*") ≡ false
no_star [] is = refl
no_star (b ∷ bs) is = grind arith

pub max_again : (m : Max) → IsTrue (is_max m) → max_of (max_code m) ≡ Some m
max_again Unbounded small = refl
max_again (UpTo n) small =
    let le : n ≤ 2147483647 = small_count n small in
    let lt : n < 2 ^ 64 = omega arith in
    rw (no_star (decimal n) (begins n lt), count_again n small) refl

no_minus : (text : List ℕ) → is_count_text text ≡ true → integer_of text ≡ option_map pos (count_of text)
no_minus [] is = refl
no_minus (b ∷ bs) is = grind arith

-- the least integer, whose digits no count has
least_digits : decimal 2147483648 ≡ codes "2147483648"
least_digits = decimal-digits_value numerals (codes "2147483648") refl (lit< tt) (λ e. absurd (omega arith)) (lit< tt)

below_by : (b : Bool) (text : List ℕ) (n : ℕ) → bytes_eq text (codes "2147483648") ≡ b → is_count_text text ≡ true
    → digits_value 10 text ≡ suc n → n ≤ 2147483647 → (n ≡ 2147483647 → text ≡ codes "2147483648") → below_zero text ≡ Some (negsuc n)
below_by true text n e is value most least =
    let same : text ≡ codes "2147483648" = (bytes_eq-Decides text (codes "2147483648")).0 e in
    let value-least : 2147483648 ≡ suc n = sym (ap (digits_value 10) same) ∙ value in
    let most-is : 2147483647 ≡ n = omega arith in
    rw e (ap (λ k. Some (negsuc k)) most-is)
below_by false text n e is value most least =
    let other : n ≢ 2147483647 = λ same. false≢true (sym e ∙ (bytes_eq-Decides text (codes "2147483648")).1 (least same)) in
    let lt : suc n ≤ 2147483647 = omega arith in
    let counts : count_of text ≡ Some (suc n) = counted text (suc n) is value (grind arith) in
    rw (e, counts) refl

pub integer_again : (z : ℤ) → IsTrue (is_integer z) → integer_of (signed_decimal z) ≡ Some z
integer_again (pos n) small =
    let le : n ≤ 2147483647 = small_count n small in
    let lt : n < 2 ^ 64 = omega arith in
    rw (no_minus (decimal n) (begins n lt), count_again n small) refl
integer_again (negsuc n) small =
    let le : n ≤ 2147483647 = small_count n small in
    let lt : suc n < 2 ^ 64 = omega arith in
    below_by (bytes_eq (decimal (suc n)) (codes "2147483648")) (decimal (suc n)) n refl (begins (suc n) lt) (value_of (suc n) lt) le
    (λ e. ap (λ k. decimal (suc k)) e ∙ least_digits)
