-- Whole values, by the zeros at the end of the digits.
use Rattle.std.proofs.Common.{◌≡◌, ℕ, zero, suc, ◌+◌, ◌-◌, ◌*◌, ◌/◌, ◌%◌, ◌^◌, ◌<◌, ◌≤◌, Bool, true, false, ◌⊎◌, List, ◌++◌, length, refl, sym, ap, ◌∙◌, arith, inl, inr}
use Rattle.std.specs.Prelude.{if◌then◌else◌, nat_abs, nat_eq, nat_le}
use Rattle.std.proofs.lemmas.Bool.{cases_lt, lt-leb, le-leb}
use Rattle.std.proofs.lemmas.Nat.{pow-add}
use Rattle.std.proofs.Math.Nat.{pow-succ', mul-mod_left, mul-mod_right, mod-add-div, eq_of_mul-eq-mul_right}
use Rattle.fhir_decimal.specs.Text.{Parts}
use Rattle.fhir_decimal.specs.Value.{integer_of, number_of, value_of}
use Rattle.fhir_decimal.specs.Whole.{count, is_whole_value}
use Rattle.fhir_decimal.specs.Rows.{digit_in, signed_apart, apart}
use Rattle.fhir_decimal.proofs.Digits.{prefix}
use Rattle.fhir_decimal.proofs.Order.{ten_pos}

-- ---- what ten divides

regrouped : (m d q p : ℕ) → (m * d) * p ≡ m * (p * d)
regrouped m d q p = grind arith

-- zeros enough
pub divided : (m a b : ℕ) → b ≤ a → (m * 10 ^ a) % 10 ^ b ≡ 0
divided m a b h =
    let e : a ≡ (a - b) + b = omega arith in
    let up : m * 10 ^ a ≡ (m * 10 ^ (a - b)) * 10 ^ b = ap (λ (z : ℕ). m * 10 ^ z) e ∙ ap (λ (z : ℕ). m * z) (pow-add 10 (a - b) b) ∙ side m (10 ^ (a - b)) (10 ^ b) in
    ap (λ (z : ℕ). z % 10 ^ b) up ∙ mul-mod_left (m * 10 ^ (a - b)) (10 ^ b)
  where
    side : (m x y : ℕ) → m * (x * y) ≡ (m * x) * y
    side m x y = grind arith

-- too few, where the last digit isn't 0
pub undivided : (m a b : ℕ) → 0 < m % 10 → a < b → 0 < (m * 10 ^ a) % 10 ^ b
undivided m a b odd h = elim (cases_lt 0 ((m * 10 ^ a) % 10 ^ b)) [
  | inl p ↦ p
  | inr p ↦ absurd (ten_divides (omega arith))
]
  where
    shape : (w x q : ℕ) → (10 * (w * x)) * q ≡ (10 * (w * q)) * x
    shape w x q = grind arith

    ten_divides : (m * 10 ^ a) % 10 ^ b ≡ 0 → ⊥
    ten_divides none =
        let k = b - (a + 1) in
        let q = (m * 10 ^ a) / 10 ^ b in
        let e : b ≡ suc (k + a) = omega arith in
        let wide : 10 ^ b ≡ 10 * (10 ^ k * 10 ^ a) = ap (λ (z : ℕ). 10 ^ z) e ∙ pow-succ' 10 (k + a) ∙ ap (λ (z : ℕ). 10 * z) (pow-add 10 k a) in
        let all : 10 ^ b * q ≡ m * 10 ^ a = omega (arith, mod-add-div (m * 10 ^ a) (10 ^ b)) in
        let same : (10 * (10 ^ k * q)) * 10 ^ a ≡ m * 10 ^ a = sym (shape (10 ^ k) (10 ^ a) q) ∙ ap (λ (z : ℕ). z * q) (sym wide) ∙ all in
        let tens : 10 * (10 ^ k * q) ≡ m = eq_of_mul-eq-mul_right (10 ^ a) (ten_pos a) (10 * (10 ^ k * q)) m same in
        let last : m % 10 ≡ 0 = ap (λ (z : ℕ). z % 10) (sym tens) ∙ mul-mod_right 10 (10 ^ k * q) in
        omega arith

-- ---- zeros at the end

-- the last digit of the first ones
pub last_digit : (d : ℕ → ℕ) (n : ℕ) → d n ≤ 9 → prefix d (suc n) % 10 ≡ d n
last_digit d n h = omega arith

pub zero_step : (d : ℕ → ℕ) (places zeros number : ℕ) → zeros < places → d (places - 1 - zeros) ≡ 0 → number ≡ prefix d (places - zeros) * 10 ^ zeros
    → number ≡ prefix d (places - (zeros + 1)) * 10 ^ (zeros + 1)
zero_step d places zeros number h none is =
    let n = places - (zeros + 1) in
    let e : places - zeros ≡ suc n = omega arith in
    let f : places - 1 - zeros ≡ n = omega arith in
    let g : zeros + 1 ≡ suc zeros = omega arith in
    let last : d n ≡ 0 = ap d (sym f) ∙ none in
    is
    ∙ ap (λ (z : ℕ). prefix d z * 10 ^ zeros) e
    ∙ ap (λ (z : ℕ). (10 * prefix d n + z) * 10 ^ zeros) last
    ∙ shift (prefix d n) (10 ^ zeros)
    ∙ ap (λ (z : ℕ). prefix d n * z) (sym (pow-succ' 10 zeros))
    ∙ ap (λ (z : ℕ). prefix d n * 10 ^ z) (sym g)
  where
    shift : (m w : ℕ) → (10 * m + 0) * w ≡ m * (10 * w)
    shift m w = grind arith

-- ---- whole values

magnitude : (s : Bool) (n : ℕ) → nat_abs (integer_of s n) ≡ n
magnitude true zero = refl
magnitude true (suc n) = refl
magnitude false n = refl

product : (m t up : ℕ) → (m * 10 ^ t) * 10 ^ up ≡ m * 10 ^ (up + t)
product m t up = side m (10 ^ t) (10 ^ up) ∙ ap (λ (z : ℕ). m * z) (sym (pow-add 10 up t))
  where
    side : (m x y : ℕ) → (m * x) * y ≡ m * (y * x)
    side m x y = grind arith

zero_times : (k d : ℕ) → 0 < d → (0 * k) % d ≡ 0
zero_times k d p = let e : 0 * k ≡ 0 * d = omega arith in ap (λ (z : ℕ). z % d) e ∙ mul-mod_left 0 d

is_none : (n : ℕ) → n ≡ 0 → nat_eq n 0 ≡ true
is_none n h = ap (λ (z : ℕ). nat_eq z 0) h

is_some_number : (n : ℕ) → 0 < n → nat_eq n 0 ≡ false
is_some_number n h = grind arith

-- zeros enough behind the point
pub whole_enough : (n m t up down : ℕ) → n ≡ m * 10 ^ t → down ≤ up + t → nat_eq ((n * 10 ^ up) % 10 ^ down) 0 ≡ true
whole_enough n m t up down e h =
    is_none ((n * 10 ^ up) % 10 ^ down) (ap (λ (z : ℕ). (z * 10 ^ up) % 10 ^ down) e ∙ ap (λ (z : ℕ). z % 10 ^ down) (product m t up) ∙ divided m (up + t) down h)

-- no digit but zeros
pub whole_nothing : (n m t up down : ℕ) → n ≡ m * 10 ^ t → m ≡ 0 → nat_eq ((n * 10 ^ up) % 10 ^ down) 0 ≡ true
whole_nothing n m t up down e h =
    is_none ((n * 10 ^ up) % 10 ^ down)
    (ap (λ (z : ℕ). (z * 10 ^ up) % 10 ^ down) e ∙ ap (λ (z : ℕ). z % 10 ^ down) (product m t up) ∙ ap (λ (z : ℕ). (z * 10 ^ (up + t)) % 10 ^ down) h
    ∙ zero_times (10 ^ (up + t)) (10 ^ down) (ten_pos down))

-- a digit stays behind the point
pub not_whole : (n m t up down : ℕ) → n ≡ m * 10 ^ t → 0 < m % 10 → up + t < down → nat_eq ((n * 10 ^ up) % 10 ^ down) 0 ≡ false
not_whole n m t up down e odd h =
    ap (λ (z : ℕ). nat_eq ((z * 10 ^ up) % 10 ^ down) 0) e ∙ ap (λ (z : ℕ). nat_eq (z % 10 ^ down) 0) (product m t up)
    ∙ is_some_number ((m * 10 ^ (up + t)) % 10 ^ down) (undivided m (up + t) down odd h)

pub count_whole : (n : ℕ) → is_whole_value (count n) ≡ true
unfolding is_whole_value
count_whole n = whole_enough n n 0 0 0 (one n) (omega arith)
  where
    one : (n : ℕ) → n ≡ n * 10 ^ 0
    one n = omega arith

-- ---- a decimal's

abbrev pub up_of : Parts → ℕ
up_of p = if p.lowers then 0 else number_of p.exponent

abbrev pub down_of : Parts → ℕ
down_of p = length p.fraction + (if p.lowers then number_of p.exponent else 0)

pub whole_is : (p : Parts) (b : Bool) → nat_eq ((number_of (p.whole ++ p.fraction) * 10 ^ up_of p) % 10 ^ down_of p) 0 ≡ b → b ≡ is_whole_value (value_of p)
unfolding is_whole_value value_of
whole_is p b h = sym h ∙ ap (λ (z : ℕ). nat_eq ((z * 10 ^ up_of p) % 10 ^ down_of p) 0) (sym (magnitude p.negative (number_of (p.whole ++ p.fraction))))

-- the exponent, as far as it is of use
pub raised_over : (p : Parts) (far e t : ℕ) → e ≡ signed_apart far p.lowers (number_of p.exponent) false 0 → far + length p.fraction ≤ e + t
    → length p.fraction + t < far → down_of p ≤ up_of p + t
unfolding apart
raised_over p far e t is h room = side p.lowers (number_of p.exponent) (length p.fraction) far e t is h room
  where
    side : (s : Bool) (x f far e t : ℕ) → e ≡ signed_apart far s x false 0 → far + f ≤ e + t → f + t < far
        → f + (if s then x else 0) ≤ (if s then 0 else x) + t
    side true x f far e t is h room = omega arith
    side false x f far e t is h room = omega arith

pub raised_under : (p : Parts) (far e t : ℕ) → e ≡ signed_apart far p.lowers (number_of p.exponent) false 0 → e + t < far + length p.fraction
    → length p.fraction + t < far → up_of p + t < down_of p
unfolding apart
raised_under p far e t is h room = side p.lowers (number_of p.exponent) (length p.fraction) far e t is h room
  where
    side : (s : Bool) (x f far e t : ℕ) → e ≡ signed_apart far s x false 0 → e + t < far + f → f + t < far
        → (if s then 0 else x) + t < f + (if s then x else 0)
    side true x f far e t is h room = omega arith
    side false x f far e t is h room = omega arith

-- what the program answers
pub whole_by_zeros : (p : Parts) (far e m t : ℕ) → number_of (p.whole ++ p.fraction) ≡ m * 10 ^ t → 0 < m % 10
    → e ≡ signed_apart far p.lowers (number_of p.exponent) false 0 → length p.fraction + t < far
    → nat_le (far + length p.fraction) (e + t) ≡ is_whole_value (value_of p)
whole_by_zeros p far e m t digits odd is room = elim (cases_lt (e + t) (far + length p.fraction)) [
  | inl less ↦ lt-leb (far + length p.fraction) (e + t) less ∙ whole_is p false (not_whole (number_of (p.whole ++ p.fraction)) m t (up_of p) (down_of p) digits odd (raised_under p far e t is less room))
  | inr more ↦ le-leb (far + length p.fraction) (e + t) more ∙ whole_is p true (whole_enough (number_of (p.whole ++ p.fraction)) m t (up_of p) (down_of p) digits (raised_over p far e t is more room))
]

pub nothing_whole : (p : Parts) (m t : ℕ) → number_of (p.whole ++ p.fraction) ≡ m * 10 ^ t → m ≡ 0 → is_whole_value (value_of p) ≡ true
nothing_whole p m t digits none = sym (whole_is p true (whole_nothing (number_of (p.whole ++ p.fraction)) m t (up_of p) (down_of p) digits none))

-- where the search for zeros ends
pub tail_done : (ds : List ℕ) (places zeros : ℕ) → places ≡ length ds → zeros ≤ places → number_of ds ≡ prefix (digit_in ds) (places - zeros) * 10 ^ zeros
    → (zeros < places → 0 < digit_in ds (places - 1 - zeros)) → ((k : ℕ) → digit_in ds k ≤ 9)
    → (m : ℕ) × (number_of ds ≡ m * 10 ^ zeros) × (((0 < m % 10) × (zeros < length ds)) ⊎ ((m ≡ 0) × (zeros ≡ length ds)))
tail_done ds places zeros all within is stopped small = elim (cases_lt zeros places) [
  | inl more ↦
      let n = places - 1 - zeros in
      let e : places - zeros ≡ suc n = omega arith in
      let last = last_digit (digit_in ds) n (small n) in
      let positive = stopped more in
      let odd : 0 < prefix (digit_in ds) (suc n) % 10 = rw last positive in
      (prefix (digit_in ds) (suc n), is ∙ ap (λ (z : ℕ). prefix (digit_in ds) z * 10 ^ zeros) e, inl (odd, omega arith))
  | inr none ↦
      let e : places - zeros ≡ 0 = omega arith in
      (0, is ∙ ap (λ (z : ℕ). prefix (digit_in ds) z * 10 ^ zeros) e, inr (refl, omega arith))
]
