-- The digits of numbers.
use Rattle.std.proofs.Common.{Ordering, Less, Equal, Greater, ◌≡◌, ℕ, zero, suc, ◌+◌, ◌/◌, ◌%◌, ◌<◌, ◌≤◌, ◌^◌, [], ◌∷◌, ◌++◌, length, refl, sym, ap, ◌∙◌, inl, inr, arith, length-append}
use Rattle.std.specs.Int.Digits.{digits_of}
use Rattle.std.specs.Cmp.Lexicographic.{slice_cmp}
use Rattle.std.specs.Ordering.{nat_cmp, ordering_then}
use Rattle.std.proofs.Math.Nat.{pow-suc}
use Rattle.std.proofs.lemmas.Bool.{cases_lt, lt-ltb}
use Rattle.std.proofs.lemmas.Cmp.{tied_itself, nat_cmp_total}
use Rattle.std.proofs.lemmas.Int.Digits.{length-digits_of_step, length-digits_of-le, number_digits_of, number_lt, all_below_base_digits_of}
use Rattle.std.proofs.lemmas.Nat.{div_below}
use Rattle.fhir_json.specs.Tree.{Text}
use Rattle.fhir_json.specs.Bytes.{digit_zero}
use Rattle.fhir_gather.specs.Written.{last_digits, digit_count}

-- one digit more than without the last
pub one_digit : (n : ℕ) → 0 < n → digit_count n ≡ digit_count (n / 10) + 1
one_digit n h = length-digits_of_step 10 n (omega arith) h

few_digits : (n : ℕ) → n < 2 ^ 64 → digit_count n ≤ 20
few_digits n h = length-digits_of-le 10 20 n (omega arith) (omega arith)

pub count_fits : (count rest number : ℕ) → count + digit_count rest ≡ digit_count number → 0 < rest → number < 2 ^ 64 → count + 1 < 2 ^ 64
count_fits count rest number is some small = omega (arith, one_digit rest some, few_digits number small)

pub counted_on : (count rest number : ℕ) → count + digit_count rest ≡ digit_count number → 0 < rest → count + 1 + digit_count (rest / 10) ≡ digit_count number
counted_on count rest number is some = omega (arith, one_digit rest some)

-- a number is below the power of ten with as many digits
pub below_power : (n : ℕ) → n < 10 ^ digit_count n
below_power n = rw (number_digits_of 10 n (omega arith)) at (number_lt 10 (digits_of 10 n) (all_below_base_digits_of 10 n (omega arith)))

-- ---- so many digits

abbrev by_bytes : Text → Text → Ordering
by_bytes = slice_cmp nat_cmp

pub length-last_digits : (width n : ℕ) → length (last_digits width n) ≡ width
length-last_digits zero n = refl
length-last_digits (suc width) n =
    omega (arith, length-append (last_digits width (n / 10)) ((digit_zero + n % 10) ∷ []), length-last_digits width (n / 10))

-- what is behind two texts of one length counts only where they are the same
pub less_behind : (xs ys us vs : Text) → length xs ≡ length ys → by_bytes xs ys ≡ Less → by_bytes (xs ++ us) (ys ++ vs) ≡ Less
less_behind [] [] us vs l h = absurd cc
less_behind [] (y ∷ ys) us vs l h = absurd (omega arith)
less_behind (x ∷ xs) [] us vs l h = absurd (omega arith)
less_behind (x ∷ xs) (y ∷ ys) us vs l h = by (nat_cmp x y) (less_behind xs ys us vs (omega arith)) h
  where
    by : (o : Ordering) → (by_bytes xs ys ≡ Less → by_bytes (xs ++ us) (ys ++ vs) ≡ Less) → ordering_then o (by_bytes xs ys) ≡ Less
        → ordering_then o (by_bytes (xs ++ us) (ys ++ vs)) ≡ Less
    by Less rest h = refl
    by Equal rest h = rest h
    by Greater rest h = absurd cc

same_front : (xs us vs : Text) → by_bytes (xs ++ us) (xs ++ vs) ≡ by_bytes us vs
same_front [] us vs = refl
same_front (x ∷ xs) us vs = ap (λ (o : Ordering). ordering_then o (by_bytes (xs ++ us) (xs ++ vs))) (tied_itself nat_cmp_total x) ∙ same_front xs us vs

less_number : (m n : ℕ) → m < n → nat_cmp m n ≡ Less
less_number m n h = rw (lt-ltb m n h) refl

-- digits of a lower number come before those of a higher one
pub digits_rise : (width m n : ℕ) → m < n → n < 10 ^ width → by_bytes (last_digits width m) (last_digits width n) ≡ Less
digits_rise zero m n h small = absurd (omega arith)
digits_rise (suc width) m n h small = elim (cases_lt (m / 10) (n / 10)) [
  | inl lower ↦
      less_behind (last_digits width (m / 10)) (last_digits width (n / 10)) ((digit_zero + m % 10) ∷ []) ((digit_zero + n % 10) ∷ [])
      (length-last_digits width (m / 10) ∙ sym (length-last_digits width (n / 10)))
      (digits_rise width (m / 10) (n / 10) lower (front_below n width small))
  | inr not_lower ↦
      let same : m / 10 ≡ n / 10 = omega arith in
      let less : digit_zero + m % 10 < digit_zero + n % 10 = omega arith in
      ap (λ (q : ℕ). by_bytes (last_digits width q ++ (digit_zero + m % 10) ∷ []) (last_digits width (n / 10) ++ (digit_zero + n % 10) ∷ [])) same
      ∙ same_front (last_digits width (n / 10)) ((digit_zero + m % 10) ∷ []) ((digit_zero + n % 10) ∷ [])
      ∙ ap (λ (o : Ordering). ordering_then o Equal) (less_number (digit_zero + m % 10) (digit_zero + n % 10) less)
]
  where
    front_below : (n width : ℕ) → n < 10 ^ suc width → n / 10 < 10 ^ width
    front_below n width h = div_below n 10 (10 ^ width) (omega arith) (omega (arith, pow-suc 10 width))
