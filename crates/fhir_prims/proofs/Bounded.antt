-- Digits, and the most that their number may be.
use Rattle.std.proofs.Common.{◌≡◌, ◌∙◌, ap, ap₂, refl, sym, ℕ, ◌+◌, ◌-◌, ◌*◌, ◌^◌, ◌≤◌, List, [], ◌∷◌, length, Bool, true, false, ◌&&◌, nat_le, arith}
use Rattle.std.proofs.Math.Nat.{one-le-pow, pow-succ'}
use Rattle.std.proofs.lemmas.Nat.{mul-le}
use Rattle.std.proofs.lemmas.Bool.{le-leb, lt-leb, leb-true, leb-false, and_right, cond-true}
use Rattle.fhir_decimal.specs.Value.{digit_value, number_of}
use Rattle.std.specs.Char.{is_ascii_digit}
use Rattle.std.specs.List.{list_all}
use Rattle.fhir_prims.specs.Numbers.{are_digits_to}

-- digits, whose number with `n` before them is at most `most`
abbrev pub within : ℕ → ℕ → List ℕ → Bool
within most n [] = true
within most n (b ∷ bs) = is_ascii_digit b && nat_le (10 * n + (b - 48)) most && within most (10 * n + (b - 48)) bs

-- the first digits before the others, and the last of them apart
regrouped : (n d p r : ℕ) → (10 * n + d) * p + r ≡ n * (10 * p) + (d * p + r)
regrouped n d p r = grind arith

-- a digit more before the others
step : (n b : ℕ) (bs : List ℕ) → is_ascii_digit b ≡ true → (10 * n + (b - 48)) * 10 ^ length bs + number_of bs ≡ n * 10 ^ length (b ∷ bs) + number_of (b ∷ bs)
step n b bs digit =
    let p = 10 ^ length bs in
    let value : digit_value b ≡ b - 48 = cond-true (is_ascii_digit b) (b - 48) 0 digit in
    regrouped n (b - 48) p (number_of bs) ∙ ap₂ (λ q d. n * q + (d * p + number_of bs)) (sym (pow-succ' 10 (length bs))) (sym value)

large : (k : ℕ) (bs : List ℕ) → k ≤ k * 10 ^ length bs + number_of bs
large k bs =
    let one = one-le-pow (length bs) 10 (omega arith) in
    let most = mul-le k 1 k (10 ^ length bs) (omega arith) one in
    omega arith

module _ (most : ℕ) where
  within_by : (n b : ℕ) (bs : List ℕ) (digit small : Bool) → is_ascii_digit b ≡ digit → nat_le (10 * n + (b - 48)) most ≡ small
      → (10 * n + (b - 48) ≤ most
      → within most (10 * n + (b - 48)) bs ≡ (list_all is_ascii_digit bs && nat_le ((10 * n + (b - 48)) * 10 ^ length bs + number_of bs) most))
      → (digit && small && within most (10 * n + (b - 48)) bs)
      ≡ ((digit && list_all is_ascii_digit bs) && nat_le (n * 10 ^ length (b ∷ bs) + number_of (b ∷ bs)) most)
  within_by n b bs false small p q rest = refl
  within_by n b bs true true p q rest =
      rest (leb-true (10 * n + (b - 48)) most q) ∙ ap (λ v. list_all is_ascii_digit bs && nat_le v most) (step n b bs p)
  within_by n b bs true false p q rest =
      let more = leb-false (10 * n + (b - 48)) most q in
      let far = large (10 * n + (b - 48)) bs in
      let whole = step n b bs p in
      let v = n * 10 ^ length (b ∷ bs) + number_of (b ∷ bs) in
      sym (and_right (list_all is_ascii_digit bs) (nat_le v most) (lt-leb v most (omega arith)))

  within_is : (n : ℕ) (s : List ℕ) → n ≤ most → within most n s ≡ (list_all is_ascii_digit s && nat_le (n * 10 ^ length s + number_of s) most)
  within_is n [] small = sym (le-leb (n * 10 ^ 0 + 0) most (omega arith))
  within_is n (b ∷ bs) small = within_by n b bs (is_ascii_digit b) (nat_le (10 * n + (b - 48)) most) refl refl (within_is (10 * n + (b - 48)) bs)

  pub from_start : (s : List ℕ) → are_digits_to most s ≡ within most 0 s
  from_start s =
      let none : 0 * 10 ^ length s + number_of s ≡ number_of s = omega arith in
      sym (within_is 0 s (omega arith) ∙ ap (λ v. list_all is_ascii_digit s && nat_le v most) none)
