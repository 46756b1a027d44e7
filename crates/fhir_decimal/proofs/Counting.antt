-- Counts as digits, and in the order of values.
use Rattle.std.proofs.Common.{◌≡◌, ℕ, suc, ◌+◌, ◌-◌, ◌*◌, ◌/◌, ◌%◌, ◌^◌, ◌<◌, ◌≤◌, Bool, true, false, List, [], ◌∷◌, length, set, drop, refl, sym, ap, ap₂, ◌∙◌, arith, inl, inr}
use Rattle.std.specs.declared.cmp.Ordering.{Ordering}
use Rattle.std.specs.declared.cmp.Ordering.TheVariants.{Less, Equal, Greater}
use Rattle.std.specs.Ordering.{nat_cmp, ordering_reverse, is_gt, is_eq}
use Rattle.std.proofs.lemmas.Bool.{cases_lt}
use Rattle.std.proofs.lemmas.List.{append-nil, drop-set, length-drop}
use Rattle.std.proofs.Math.Nat.{pow-succ', mod-lt, mod-add-div}
use Rattle.fhir_decimal.specs.Text.{unsigned_parts}
use Rattle.fhir_decimal.specs.Value.{Value, digit_value, number_of, value_of, value_order, is_same_value}
use Rattle.fhir_decimal.specs.Whole.{count}
use Rattle.fhir_decimal.proofs.Order.{whole_order, total_order, signed_cmp}

-- ---- digits

digit_again : (r : ℕ) → r < 10 → digit_value (48 + r) ≡ r
digit_again r h = grind arith

spread : (q m w n : ℕ) → m * w + n + q * (10 * w) ≡ n + (m + 10 * q) * w
spread q m w n = grind arith

-- one digit more in front
pub digit_step : (ds : List ℕ) (at r n : ℕ) → length ds ≡ 20 → at < 20 → number_of (drop (at + 1) ds) + r * 10 ^ (20 - (at + 1)) ≡ n
    → number_of (drop at (set ds at (48 + r % 10))) + (r / 10) * 10 ^ (20 - at) ≡ n
digit_step ds at r n long below is =
    let k = 20 - (at + 1) in
    let w = 10 ^ k in
    let rest = drop (at + 1) ds in
    let here : drop at (set ds at (48 + r % 10)) ≡ (48 + r % 10) ∷ rest = drop-set ds at (48 + r % 10) (omega arith) in
    let places : length rest ≡ k = omega (arith, length-drop (at + 1) ds) in
    let wide : 20 - at ≡ suc k = omega arith in
    let small : r % 10 < 10 = mod-lt r (omega arith) in
    ap₂ (λ (xs : List ℕ) (j : ℕ). number_of xs + (r / 10) * 10 ^ j) here wide
    ∙ ap₂ (λ (i d : ℕ). d * 10 ^ i + number_of rest + (r / 10) * 10 ^ suc k) places (digit_again (r % 10) small)
    ∙ ap (λ (z : ℕ). (r % 10) * w + number_of rest + (r / 10) * z) (pow-succ' 10 k)
    ∙ spread (r / 10) (r % 10) w (number_of rest)
    ∙ ap (λ (z : ℕ). number_of rest + z * w) (mod-add-div r 10)
    ∙ is

pub tenth_below : (r at : ℕ) → r < 10 ^ (at + 1) → r / 10 < 10 ^ at
tenth_below r at h =
    let wide : at + 1 ≡ suc at = omega arith in
    let e : 10 ^ (at + 1) ≡ 10 * 10 ^ at = ap (λ (z : ℕ). 10 ^ z) wide ∙ pow-succ' 10 at in
    let d = mod-add-div r 10 in
    omega arith

-- ---- their values

pub count_digits : (ds : List ℕ) (n : ℕ) → number_of ds ≡ n → value_of (unsigned_parts ds []) ≡ count n
unfolding value_of
count_digits ds n e = ap (λ (m : ℕ). count m) (ap number_of (append-nil ds) ∙ e)

-- ---- their order

pub counts_order : (m n : ℕ) → value_order (count m) (count n) ≡ nat_cmp m n
unfolding value_order
counts_order m n =
    let one : (k : ℕ) → k * 10 ^ 0 ≡ k = λ k. omega arith in
    whole_order false false m n 0 0 ∙ ap₂ (λ (a b : ℕ). signed_cmp false a false b) (one m) (one n) ∙ plain m n
  where
    plain : (m n : ℕ) → signed_cmp false m false n ≡ nat_cmp m n
    plain m n =
        let left : m + 0 ≡ m = omega arith in
        let right : n + 0 ≡ n = omega arith in
        ap₂ nat_cmp left right

pub turned_order : (v w : Value) → value_order v w ≡ ordering_reverse (value_order w v)
turned_order v w = total_order.antisymm v w

less_is : (o : Ordering) → is_gt o ≡ true → ordering_reverse o ≡ Less
less_is Less h = absurd cc
less_is Equal h = absurd cc
less_is Greater h = refl

over_is : (o : Ordering) → ordering_reverse o ≡ Less → is_gt o ≡ true
over_is Less h = absurd cc
over_is Equal h = absurd cc
over_is Greater h = refl

nat_less : (m n : ℕ) → m < n → nat_cmp m n ≡ Less
nat_less m n h = grind arith

-- what is above a count is above the lower ones
pub over_lower : (v : Value) (m n : ℕ) → m < n → is_gt (value_order v (count n)) ≡ true → is_gt (value_order v (count m)) ≡ true
over_lower v m n h over =
    let below : value_order (count n) v ≡ Less = turned_order (count n) v ∙ less_is (value_order v (count n)) over in
    let lower : value_order (count m) v ≡ Less = total_order.trans (count m) (count n) v (counts_order m n ∙ nat_less m n h) below in
    over_is (value_order v (count m)) (sym (turned_order (count m) v) ∙ lower)

contrary : (a b : Bool) → (a ≡ true → b ≡ true) → b ≡ false → a ≡ false
contrary true b h isnt = absurd (clash b (h refl) isnt)
  where
    clash : (b : Bool) → b ≡ true → b ≡ false → ⊥
    clash b p q = cc
contrary false b h isnt = refl

-- and what isn't above a count isn't above the higher ones
pub not_over_higher : (v : Value) (m n : ℕ) → m < n → is_gt (value_order v (count m)) ≡ false → is_gt (value_order v (count n)) ≡ false
not_over_higher v m n h isnt = contrary (is_gt (value_order v (count n))) (is_gt (value_order v (count m))) (over_lower v m n h) isnt

-- ---- the count that a value is

not_same_over : (o : Ordering) → is_gt o ≡ true → is_eq o ≡ false
not_same_over Less h = absurd cc
not_same_over Equal h = absurd cc
not_same_over Greater h = refl

pub over_differs : (v : Value) (n : ℕ) → is_gt (value_order v (count n)) ≡ true → is_same_value v (count n) ≡ false
over_differs v n h = not_same_over (value_order v (count n)) h

under : (o : Ordering) → is_gt o ≡ false → is_eq o ≡ false → o ≡ Less
under Less p q = refl
under Equal p q = absurd cc
under Greater p q = absurd cc

-- neither above a count nor the same as it: not the same as a higher one
pub under_differs : (v : Value) (m n : ℕ) → m < n → is_gt (value_order v (count m)) ≡ false → is_same_value v (count m) ≡ false → is_same_value v (count n) ≡ false
under_differs v m n h p q =
    ap is_eq (total_order.trans v (count m) (count n) (under (value_order v (count m)) p q) (counts_order m n ∙ nat_less m n h))

-- ---- the search

pub up_to : (v : Value) (m : ℕ) → is_gt (value_order v (count m)) ≡ true → (n : ℕ) → n < m + 1 → is_gt (value_order v (count n)) ≡ true
up_to v m over n h = elim (cases_lt n m) [
  | inl less ↦ over_lower v n m less over
  | inr more ↦ let e : m ≡ n = omega arith in ap (λ (k : ℕ). is_gt (value_order v (count k))) (sym e) ∙ over
]

pub from_there : (v : Value) (m : ℕ) → is_gt (value_order v (count m)) ≡ false → (n : ℕ) → m ≤ n → is_gt (value_order v (count n)) ≡ false
from_there v m isnt n h = elim (cases_lt m n) [
  | inl less ↦ not_over_higher v m n less isnt
  | inr more ↦ let e : n ≡ m = omega arith in ap (λ (k : ℕ). is_gt (value_order v (count k))) e ∙ isnt
]

-- a value that is no count below the bound, by the place where it would stand
pub no_count : (v : Value) (place bound : ℕ) → ((n : ℕ) → n < place → is_gt (value_order v (count n)) ≡ true)
    → ((n : ℕ) → place ≤ n → n < bound → is_gt (value_order v (count n)) ≡ false) → (place < bound → is_same_value v (count place) ≡ false)
    → (n : ℕ) → n < bound → is_same_value v (count n) ≡ false
no_count v place bound above others isnt n h = elim (cases_lt n place) [
  | inl less ↦ over_differs v n (above n less)
  | inr more ↦ elim (cases_lt place n) [
    | inl later ↦ let room : place < bound = omega arith in let here : place ≤ place = omega arith in under_differs v place n later (others place here room) (isnt room)
    | inr now ↦ let e : place ≡ n = omega arith in let room : place < bound = omega arith in ap (λ (k : ℕ). is_same_value v (count k)) (sym e) ∙ isnt room
  ]
]
