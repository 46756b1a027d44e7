-- Numbers as texts: those of 64 bits are as std writes them, no two are alike, and each is digits.
use Rattle.std.proofs.Common.{◌≡◌, ℕ, zero, suc, ◌+◌, ◌-◌, ◌*◌, ◌/◌, ◌%◌, ◌^◌, ◌<◌, ◌≤◌, nat_lt, true, false, [], ◌∷◌, ◌++◌, refl, sym, ap, ◌∙◌, inl, inr, arith}
use Rattle.std.specs.Prelude.{decimal, IsUtf8}
use Rattle.std.proofs.lemmas.Bool.{cases_lt, cond-true, cond-false}
use Rattle.std.proofs.lemmas.Bool.Decides.{nat_tests}
use Rattle.std.proofs.lemmas.Fmt.{AppendsLastDigit, decimal_from_appends, length-decimal-le_succ}
use Rattle.std.proofs.lemmas.List.Folds.{list_all-append}
use Rattle.std.proofs.lemmas.Str.{IsUtf8-nil, IsUtf8-append, IsUtf8-from_ascii}
use Rattle.std.proofs.lemmas.Str.Ascii.{IsAscii-nil, IsAscii-cons}
use Rattle.fhir_json.specs.Tree.{Text}
use Rattle.fhir_certificate.specs.Numbers.{last_digits, number_text}
use Rattle.fhir_certificate.specs.Format.{is_field}

-- ---- one digit more

is_less : (n m : ℕ) → n < m → nat_lt n m ≡ true
is_less n m lt = grind (arith, nat_tests)

is_other : (n m : ℕ) → m ≤ n → nat_lt n m ≡ false
is_other n m le = grind (arith, nat_tests)

digit_alone : (k n : ℕ) → n < 10 → last_digits (suc k) n ≡ (48 + n) ∷ []
digit_alone k n small = cond-true _ _ _ (is_less n 10 small)

digit_behind : (k n : ℕ) → 10 ≤ n → last_digits (suc k) n ≡ last_digits k (n / 10) ++ (48 + n % 10) ∷ []
digit_behind k n large = cond-false _ _ _ (is_other n 10 large)

appends : AppendsLastDigit last_digits
appends = record { one = digit_alone; more = digit_behind }

pub number_is : (n : ℕ) → n < 2 ^ 64 → number_text n ≡ decimal n
unfolding number_text
number_is n lt = decimal_from_appends last_digits appends (suc n) n lt (let short = length-decimal-le_succ n lt in omega arith)

-- ---- the number of digits

abbrev value_from : ℕ → Text → ℕ
value_from n [] = n
value_from n (b ∷ bs) = value_from (n * 10 + (b - 48)) bs

value_push : (n : ℕ) (bs : Text) (b : ℕ) → value_from n (bs ++ b ∷ []) ≡ value_from n bs * 10 + (b - 48)
value_push n [] b = refl
value_push n (x ∷ bs) b = value_push (n * 10 + (x - 48)) bs b

value_one : (n : ℕ) → value_from 0 ((48 + n) ∷ []) ≡ n
value_one n = let e : 0 * 10 + (48 + n - 48) ≡ n = omega arith in e

value_last : (k n : ℕ) → n < k → value_from 0 (last_digits k n) ≡ n
value_last zero n lt = absurd (omega arith)
value_last (suc k) n lt =
    elim (cases_lt n 10) [
      | inl small ↦ ap (value_from 0) (digit_alone k n small) ∙ value_one n
      | inr large ↦
          let rest : value_from 0 (last_digits k (n / 10)) ≡ n / 10 = value_last k (n / 10) (omega arith) in
          let whole : value_from 0 (last_digits k (n / 10)) * 10 + (48 + n % 10 - 48) ≡ n = omega arith in
          ap (value_from 0) (digit_behind k n large) ∙ value_push 0 (last_digits k (n / 10)) (48 + n % 10) ∙ whole
    ]

value_is : (n : ℕ) → value_from 0 (number_text n) ≡ n
unfolding number_text
value_is n = value_last (suc n) n (omega arith)

-- no two numbers have one text
pub one_number : (m n : ℕ) → number_text m ≡ number_text n → m ≡ n
one_number m n e = sym (value_is m) ∙ ap (value_from 0) e ∙ value_is n

-- ---- digits

digit_field : (n : ℕ) → n < 10 → is_field ((48 + n) ∷ []) ≡ true
digit_field n small = grind (arith, nat_tests)

last_field : (k n : ℕ) → is_field (last_digits k n) ≡ true
last_field zero n = refl
last_field (suc k) n =
    elim (cases_lt n 10) [
      | inl small ↦ ap is_field (digit_alone k n small) ∙ digit_field n small
      | inr large ↦
          ap is_field (digit_behind k n large) ∙ list_all-append _ (last_digits k (n / 10)) ((48 + n % 10) ∷ [])
          ∙ rw (last_field k (n / 10), digit_field (n % 10) (omega arith)) refl
    ]

pub number_field : (n : ℕ) → is_field (number_text n) ≡ true
unfolding number_text
number_field n = last_field (suc n) n

digit_utf8 : (n : ℕ) → n < 10 → IsUtf8 ((48 + n) ∷ [])
digit_utf8 n small = IsUtf8-from_ascii ((48 + n) ∷ []) (IsAscii-cons (48 + n) [] (omega arith) IsAscii-nil)

last_utf8 : (k n : ℕ) → IsUtf8 (last_digits k n)
last_utf8 zero n = IsUtf8-nil
last_utf8 (suc k) n =
    elim (cases_lt n 10) [
      | inl small ↦ rw (digit_alone k n small) (digit_utf8 n small)
      | inr large ↦ rw (digit_behind k n large) (IsUtf8-append (last_digits k (n / 10)) ((48 + n % 10) ∷ []) (last_utf8 k (n / 10)) (digit_utf8 (n % 10) (omega arith)))
    ]

pub number_utf8 : (n : ℕ) → IsUtf8 (number_text n)
unfolding number_text
number_utf8 n = last_utf8 (suc n) n
