-- The number that digits write, with another added.
use Rattle.std.proofs.Common.{◌≡◌, ℕ, zero, suc, ◌+◌, ◌*◌, ◌/◌, ◌%◌, ◌^◌, ◌≤◌, min, List, [], ◌∷◌, ◌++◌, length, take, sym, ap, ap₂, ◌∙◌, arith}
use Rattle.std.specs.Prelude.{slice_index}
use Rattle.std.proofs.Math.Nat.{pow-succ'}
use Rattle.std.proofs.lemmas.Nat.{pow-add}
use Rattle.std.proofs.lemmas.List.{length-append, length-take-le}
use Rattle.fhir_decimal.specs.Value.{digit_value, number_of}
use Rattle.fhir_number_keys.specs.Digits.{number_in, AreDigits}

-- one digit more behind the others
pub number_with : (ds : List ℕ) (d : ℕ) → number_in (ds ++ d ∷ []) ≡ number_in ds + d * 10 ^ length ds
number_with [] d = omega arith
number_with (e ∷ ds) d =
    ap (λ (n : ℕ). e + 10 * n) (number_with ds d) ∙ side e (number_in ds) d (10 ^ length ds) ∙ ap (λ (w : ℕ). e + 10 * number_in ds + d * w) (sym (pow-succ' 10 (length ds)))
  where
    side : (e n d w : ℕ) → e + 10 * (n + d * w) ≡ (e + 10 * n) + d * (10 * w)
    side e n d w = grind arith

pub digits_with : (ds : List ℕ) (d : ℕ) → AreDigits ds → d ≤ 9 → AreDigits (ds ++ d ∷ [])
digits_with [] d h small = (small, tt)
digits_with (e ∷ ds) d h small = (h.0, digits_with ds d h.1 small)

-- of a text the last digit stands for itself, and those before it for ten times their number
pub last_split : (bs : List ℕ) (n : ℕ) → length bs ≡ suc n → number_of bs ≡ number_of (take n bs) * 10 + digit_value (slice_index bs n)
last_split [] n h = absurd (omega (arith, h))
last_split (b ∷ []) zero h = omega arith
last_split (b ∷ []) (suc n) h = absurd (omega (arith, h))
last_split (b ∷ (c ∷ bs)) zero h = absurd (omega (arith, h))
last_split (b ∷ (c ∷ bs)) (suc n) h =
    let later : length (c ∷ bs) ≡ suc n = omega (arith, h) in
    let cut : length (take n (c ∷ bs)) ≡ n = length-take-le n (c ∷ bs) (omega (arith, later)) in
    ap₂ (λ (k m : ℕ). digit_value b * 10 ^ k + m) later (last_split (c ∷ bs) n later)
    ∙ ap (λ (w : ℕ). digit_value b * w + (number_of (take n (c ∷ bs)) * 10 + digit_value (slice_index (c ∷ bs) n))) (pow-succ' 10 n)
    ∙ side (digit_value b) (10 ^ n) (number_of (take n (c ∷ bs))) (digit_value (slice_index (c ∷ bs) n))
    ∙ ap (λ (k : ℕ). (digit_value b * 10 ^ k + number_of (take n (c ∷ bs))) * 10 + digit_value (slice_index (c ∷ bs) n)) (sym cut)
  where
    side : (b w m d : ℕ) → b * (10 * w) + (m * 10 + d) ≡ (b * w + m) * 10 + d
    side b w m d = grind arith

pub number_of_both : (xs ys : List ℕ) → number_of (xs ++ ys) ≡ number_of xs * 10 ^ length ys + number_of ys
number_of_both [] ys = omega arith
number_of_both (x ∷ xs) ys =
    ap₂ (λ (k m : ℕ). digit_value x * 10 ^ k + m) (length-append xs ys) (number_of_both xs ys)
    ∙ ap (λ (w : ℕ). digit_value x * w + (number_of xs * 10 ^ length ys + number_of ys)) (pow-add 10 (length xs) (length ys))
    ∙ side (digit_value x) (10 ^ length xs) (10 ^ length ys) (number_of xs) (number_of ys)
  where
    side : (d v w n m : ℕ) → d * (v * w) + (n * w + m) ≡ (d * v + n) * w + m
    side d v w n m = grind arith

-- a step from the right, where a digit and what is carried are summed
pub carried : (new old rest n d left w big all : ℕ) → new ≡ old + ((left + d) % 10) * w → big ≡ 10 * w → n ≡ rest * 10 + d → old + (n + left) * w ≡ all
    → new + (rest + (left + d) / 10) * big ≡ all
carried new old rest n d left w big all step wide last before =
    let s = left + d in
    let e : s ≡ s % 10 + 10 * (s / 10) = omega arith in
    ap₂ (λ (x y : ℕ). x + (rest + s / 10) * y) step wide ∙ side old (s % 10) w rest (s / 10)
    ∙ ap (λ (z : ℕ). old + (rest * 10 + z) * w) (sym e) ∙ other old rest left d w
    ∙ ap (λ (z : ℕ). old + (z + left) * w) (sym last) ∙ before
  where
    side : (o r w n q : ℕ) → (o + r * w) + (n + q) * (10 * w) ≡ o + (n * 10 + (r + 10 * q)) * w
    side o r w n q = grind arith

    other : (o n l d w : ℕ) → o + (n * 10 + (l + d)) * w ≡ o + ((n * 10 + d) + l) * w
    other o n l d w = grind arith

pub next_left : (new old left w big all : ℕ) → new ≡ old + (left % 10) * w → big ≡ 10 * w → old + left * w ≡ all → new + left / 10 * big ≡ all
next_left new old left w big all step wide before =
    let e : left ≡ left % 10 + 10 * (left / 10) = omega arith in
    ap₂ (λ (x y : ℕ). x + left / 10 * y) step wide ∙ side old (left % 10) w (left / 10) ∙ ap (λ (z : ℕ). old + z * w) (sym e) ∙ before
  where
    side : (o r w q : ℕ) → (o + r * w) + q * (10 * w) ≡ o + (r + 10 * q) * w
    side o r w q = grind arith

-- of a text with one digit more
pub text_with : (bs : List ℕ) (b : ℕ) → number_of (bs ++ b ∷ []) ≡ number_of bs * 10 + digit_value b
text_with bs b = number_of_both bs (b ∷ []) ∙ omega arith

-- the number so far, as far as it is of use
pub near_step : (n d k far more now : ℕ) → k ≡ min n (2 * far) → 1 ≤ far → more ≡ n * 10 + d → now ≡ min (10 * k + d) (2 * far) → now ≡ min more (2 * far)
near_step n d k far more now is some next here = omega (arith, is, some, next, here)

-- a number in two texts with another added, where the texts are taken from the right
pub summed : (xs ys : List ℕ) (none first second last left more addend zero_long long : ℕ) → none ≡ 0 → zero_long ≡ 0
    → long ≡ zero_long + length ys → first + left * 10 ^ long ≡ none + (number_of ys + addend) * 10 ^ zero_long
    → second + more ≡ first + (number_of xs + left) * 10 ^ long → last ≡ second + more → last ≡ number_of (xs ++ ys) + addend
summed xs ys none first second last left more addend zero_long long n z l one two three =
    let short : 10 ^ zero_long ≡ 1 = ap (λ k. 10 ^ k) z in
    let once : first + left * 10 ^ long ≡ number_of ys + addend = one ∙ ap₂ (λ a b. a + (number_of ys + addend) * b) n short ∙ omega arith in
    let places : 10 ^ length ys ≡ 10 ^ long = ap (λ k. 10 ^ k) (omega (arith, z, l)) in
    three ∙ two ∙ side first (number_of xs) left (10 ^ long) ∙ ap (λ s. number_of xs * 10 ^ long + s) once
    ∙ ap (λ w. number_of xs * w + (number_of ys + addend)) (sym places) ∙ other (number_of xs * 10 ^ length ys) (number_of ys) addend
    ∙ ap (λ s. s + addend) (sym (number_of_both xs ys))
  where
    side : (f n l w : ℕ) → f + (n + l) * w ≡ n * w + (f + l * w)
    side f n l w = grind arith

    other : (a b c : ℕ) → a + (b + c) ≡ (a + b) + c
    other a b c = omega arith
