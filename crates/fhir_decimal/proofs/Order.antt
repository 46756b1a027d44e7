-- The order of signed numbers and of values.
use Rattle.std.proofs.Common.{◌≡◌, ℕ, zero, suc, ◌+◌, ◌-◌, ◌*◌, ◌^◌, ◌<◌, ◌≤◌, min, ◌++◌, length, Bool, true, false, refl, sym, ap, ap₂, ◌∙◌, arith, inl, inr}
use Rattle.std.proofs.Common.{◌⊎◌}
use Rattle.std.specs.Prelude.{if◌then◌else◌, ℤ, pos, negsuc, neg_ℤ, ◌*ℤ◌, ◌<ℤ◌}
use Rattle.std.specs.declared.cmp.Ordering.{Ordering}
use Rattle.std.specs.declared.cmp.Ordering.TheVariants.{Less, Equal, Greater}
use Rattle.std.specs.Ordering.{MatchOrdering, nat_cmp, int_cmp}
use Rattle.std.specs.Cmp.{IsTotalOrder, IsEquivalence, int_cmp_is, nat_cmp_is}
use Rattle.std.proofs.lemmas.Cmp.{ranked, int_cmp_total, eq_by_cmp_equiv}
use Rattle.std.proofs.lemmas.Int.{ints}
use Rattle.std.proofs.lemmas.Bool.{cases_lt}
use Rattle.std.proofs.Math.Nat.{mul_assoc, pow-succ', mul-lt-mul_of_pos_right, eq-zero-or-pos}
use Rattle.std.proofs.lemmas.Nat.{mul-le, pow-add}
use Rattle.fhir_decimal.specs.Text.{Parts}
use Rattle.fhir_decimal.specs.Value.{Value, number_of, value_of, integer_of, whole_value, value_order, is_same_value}
use Rattle.fhir_decimal.specs.Rows.{apart, sum_over, signed_apart}
use Rattle.fhir_decimal.proofs.Digits.{number_below}

-- ---- one comparison from another

matched : {P Q R P' Q' R' : Type 0} (o : Ordering) → MatchOrdering o P Q R → (P → P') → (Q → Q') → (R → R') → MatchOrdering o P' Q' R'
matched Less h p q r = p h
matched Equal h p q r = q h
matched Greater h p q r = r h

nat_ranks : (x y : ℕ) → MatchOrdering (nat_cmp x y) (x < y) (x ≡ y) (y < x)
nat_ranks x y = ranked x y (nat_cmp x y) refl

nat_same : (x y v w : ℕ) → (x < y → v < w) → (x ≡ y → v ≡ w) → (y < x → w < v) → nat_cmp x y ≡ nat_cmp v w
nat_same x y v w p q r = nat_cmp_is v w (nat_cmp x y) (matched (nat_cmp x y) (nat_ranks x y) p q r)

-- the order of signed numbers, in natural ones
abbrev pub signed_cmp : Bool → ℕ → Bool → ℕ → Ordering
signed_cmp s x t y = nat_cmp (sum_over s x t y) (sum_over t y s x)

pub int_cmp_signed : (s : Bool) (x : ℕ) (t : Bool) (y : ℕ) → int_cmp (integer_of s x) (integer_of t y) ≡ signed_cmp s x t y
int_cmp_signed s x t y =
    let order = signed_cmp s x t y in
    let ranks = nat_ranks (sum_over s x t y) (sum_over t y s x) in
    sym (int_cmp_is (integer_of s x) (integer_of t y) order (matched order ranks (below s x t y) (same s x t y) (above s x t y)))
  where
    below : (s : Bool) (x : ℕ) (t : Bool) (y : ℕ) → sum_over s x t y < sum_over t y s x → integer_of s x <ℤ integer_of t y
    below true x true y h = omega (arith, ints)
    below true x false y h = omega (arith, ints)
    below false x true y h = omega (arith, ints)
    below false x false y h = omega (arith, ints)

    same : (s : Bool) (x : ℕ) (t : Bool) (y : ℕ) → sum_over s x t y ≡ sum_over t y s x → integer_of s x ≡ integer_of t y
    same true x true y h = omega (arith, ints)
    same true x false y h = omega (arith, ints)
    same false x true y h = omega (arith, ints)
    same false x false y h = omega (arith, ints)

    above : (s : Bool) (x : ℕ) (t : Bool) (y : ℕ) → sum_over t y s x < sum_over s x t y → integer_of t y <ℤ integer_of s x
    above s x t y h = below t y s x h

pub apart_cmp : (far x y : ℕ) → 0 < far → nat_cmp (apart far x y) far ≡ nat_cmp x y
unfolding apart
apart_cmp far x y f = sym (nat_same x y (min (2 * far) ((far + x) - y)) far (λ h. omega arith) (λ h. omega arith) (λ h. omega arith))

-- ---- both numbers times a third

times_sum : (s t : Bool) (x y k : ℕ) → sum_over s (x * k) t (y * k) ≡ sum_over s x t y * k
times_sum true true x y k = grind arith
times_sum true false x y k = grind arith
times_sum false true x y k = grind arith
times_sum false false x y k = grind arith

nat_times : (x y k : ℕ) → 0 < k → nat_cmp (x * k) (y * k) ≡ nat_cmp x y
nat_times x y k p = sym (nat_same x y (x * k) (y * k) (λ h. mul-lt-mul_of_pos_right h p) (λ h. ap (λ (z : ℕ). z * k) h) (λ h. mul-lt-mul_of_pos_right h p))

signed_times : (s t : Bool) (x y k : ℕ) → 0 < k → signed_cmp s (x * k) t (y * k) ≡ signed_cmp s x t y
signed_times s t x y k p = ap₂ nat_cmp (times_sum s t x y k) (times_sum t s y x k) ∙ nat_times (sum_over s x t y) (sum_over t y s x) k p

-- ---- a number that is far above the other may be replaced

far_left : (s t : Bool) (x v y : ℕ) → ((x ≡ 0) × (v ≡ 0)) ⊎ ((y < x) × (y < v)) → signed_cmp s x t y ≡ signed_cmp s v t y
far_left s t x v y (inl e) = ap (λ (z : ℕ). signed_cmp s z t y) (e.0 ∙ sym e.1)
far_left true true x v y (inr h) =
    nat_same (sum_over true x true y) (sum_over true y true x) (sum_over true v true y) (sum_over true y true v) (λ k. omega arith) (λ k. omega arith)
    (λ k. omega arith)
far_left true false x v y (inr h) =
    nat_same (sum_over true x false y) (sum_over false y true x) (sum_over true v false y) (sum_over false y true v) (λ k. omega arith) (λ k. omega arith)
    (λ k. omega arith)
far_left false true x v y (inr h) =
    nat_same (sum_over false x true y) (sum_over true y false x) (sum_over false v true y) (sum_over true y false v) (λ k. omega arith) (λ k. omega arith)
    (λ k. omega arith)
far_left false false x v y (inr h) =
    nat_same (sum_over false x false y) (sum_over false y false x) (sum_over false v false y) (sum_over false y false v) (λ k. omega arith) (λ k. omega arith)
    (λ k. omega arith)

far_right : (s t : Bool) (x y v : ℕ) → ((y ≡ 0) × (v ≡ 0)) ⊎ ((x < y) × (x < v)) → signed_cmp s x t y ≡ signed_cmp s x t v
far_right s t x y v (inl e) = ap (λ (z : ℕ). signed_cmp s x t z) (e.0 ∙ sym e.1)
far_right true true x y v (inr h) =
    nat_same (sum_over true x true y) (sum_over true y true x) (sum_over true x true v) (sum_over true v true x) (λ k. omega arith) (λ k. omega arith)
    (λ k. omega arith)
far_right true false x y v (inr h) =
    nat_same (sum_over true x false y) (sum_over false y true x) (sum_over true x false v) (sum_over false v true x) (λ k. omega arith) (λ k. omega arith)
    (λ k. omega arith)
far_right false true x y v (inr h) =
    nat_same (sum_over false x true y) (sum_over true y false x) (sum_over false x true v) (sum_over true v false x) (λ k. omega arith) (λ k. omega arith)
    (λ k. omega arith)
far_right false false x y v (inr h) =
    nat_same (sum_over false x false y) (sum_over false y false x) (sum_over false x false v) (sum_over false v false x) (λ k. omega arith) (λ k. omega arith)
    (λ k. omega arith)

pub ten_pos : (k : ℕ) → 0 < 10 ^ k
ten_pos zero = omega arith
ten_pos (suc k) = let p = ten_pos k in rw (pow-succ' 10 k) (omega arith)

ten_grows : (i j : ℕ) → i ≤ j → 10 ^ i ≤ 10 ^ j
ten_grows i j h =
    let e : j ≡ i + (j - i) = omega arith in
    let more : 10 ^ i * 1 ≤ 10 ^ i * 10 ^ (j - i) = mul-le (10 ^ i) 1 (10 ^ i) (10 ^ (j - i)) (omega arith) (ten_pos (j - i)) in
    rw (e, pow-add 10 i (j - i)) (omega arith)

-- with zeros enough a number is 0 or above another of fewer digits
zeros_enough : (n m b k : ℕ) → m < 10 ^ b → b ≤ k → ((n * 10 ^ k ≡ 0) × (n * 10 ^ b ≡ 0)) ⊎ ((m < n * 10 ^ k) × (m < n * 10 ^ b))
zeros_enough n m b k small h =
    elim (eq-zero-or-pos n) [
      | inl e ↦ inl (ap (λ (z : ℕ). z * 10 ^ k) e ∙ omega arith, ap (λ (z : ℕ). z * 10 ^ b) e ∙ omega arith)
      | inr p ↦
          let grows = ten_grows b k h in
          let more : 1 * 10 ^ k ≤ n * 10 ^ k = mul-le 1 (10 ^ k) n (10 ^ k) p (omega arith) in
          let enough : 1 * 10 ^ b ≤ n * 10 ^ b = mul-le 1 (10 ^ b) n (10 ^ b) p (omega arith) in
          inr (omega arith, omega arith)
    ]

-- ---- two numbers with zeros behind each

-- as many zeros as the exponents are apart, or as the other number has digits
abbrev pub IsZeros : ℕ → ℕ → ℕ → Type 0
IsZeros zeros k digits = (zeros ≡ k) ⊎ ((zeros ≡ digits) × (digits ≤ k))

regrouped : (n w v : ℕ) → n * (w * v) ≡ (n * v) * w
regrouped n w v = grind arith

lowered : (n low k : ℕ) → n * 10 ^ (low + k) ≡ (n * 10 ^ k) * 10 ^ low
lowered n low k = ap (λ (z : ℕ). n * z) (pow-add 10 low k) ∙ regrouped n (10 ^ low) (10 ^ k)

one_time : (n : ℕ) → n ≡ n * 10 ^ 0
one_time n = omega arith

pub above_right : (s t : Bool) (n m low k b zeros : ℕ) → m < 10 ^ b → IsZeros zeros k b
    → signed_cmp s (n * 10 ^ (low + k)) t (m * 10 ^ low) ≡ signed_cmp s (n * 10 ^ zeros) t (m * 10 ^ 0)
above_right s t n m low k b zeros small h =
    ap (λ (z : ℕ). signed_cmp s z t (m * 10 ^ low)) (lowered n low k)
    ∙ signed_times s t (n * 10 ^ k) m (10 ^ low) (ten_pos low)
    ∙ fewer h
    ∙ ap (λ (z : ℕ). signed_cmp s (n * 10 ^ zeros) t z) (one_time m)
  where
    fewer : IsZeros zeros k b → signed_cmp s (n * 10 ^ k) t m ≡ signed_cmp s (n * 10 ^ zeros) t m
    fewer (inl e) = ap (λ (z : ℕ). signed_cmp s (n * 10 ^ z) t m) (sym e)
    fewer (inr e) = far_left s t (n * 10 ^ k) (n * 10 ^ b) m (zeros_enough n m b k small e.1) ∙ ap (λ (z : ℕ). signed_cmp s (n * 10 ^ z) t m) (sym e.0)

pub below_left : (s t : Bool) (n m low k a zeros : ℕ) → n < 10 ^ a → IsZeros zeros k a
    → signed_cmp s (n * 10 ^ low) t (m * 10 ^ (low + k)) ≡ signed_cmp s (n * 10 ^ 0) t (m * 10 ^ zeros)
below_left s t n m low k a zeros small h =
    ap (λ (z : ℕ). signed_cmp s (n * 10 ^ low) t z) (lowered m low k)
    ∙ signed_times s t n (m * 10 ^ k) (10 ^ low) (ten_pos low)
    ∙ fewer h
    ∙ ap (λ (z : ℕ). signed_cmp s z t (m * 10 ^ zeros)) (one_time n)
  where
    fewer : IsZeros zeros k a → signed_cmp s n t (m * 10 ^ k) ≡ signed_cmp s n t (m * 10 ^ zeros)
    fewer (inl e) = ap (λ (z : ℕ). signed_cmp s n t (m * 10 ^ z)) (sym e)
    fewer (inr e) = far_right s t n (m * 10 ^ k) (m * 10 ^ a) (zeros_enough m n a k small e.1) ∙ ap (λ (z : ℕ). signed_cmp s n t (m * 10 ^ z)) (sym e.0)

-- how many zeros the program puts behind each
abbrev pub Placed : ℕ → ℕ → ℕ → ℕ → ℕ → ℕ → Type 0
Placed up other_up zeros other_zeros digits other_digits =
    ((k : ℕ) × (up ≡ other_up + k) × (other_zeros ≡ 0) × IsZeros zeros k other_digits) ⊎
    ((k : ℕ) × (other_up ≡ up + k) × (zeros ≡ 0) × IsZeros other_zeros k digits)

pub placed : (far x y f g a b e zeros other_zeros : ℕ) → e ≡ apart far x y → zeros ≡ min ((e + g) - (far + f)) b → other_zeros ≡ min ((far + f) - (e + g)) a
    → b + f ≤ far → a + g ≤ far → Placed (x + g) (y + f) zeros other_zeros a b
unfolding apart
placed far x y f g a b e zeros other_zeros is left right p q =
    elim (cases_lt (x + g) (y + f)) [
      | inl less ↦ inr (y + f - (x + g), omega arith, omega arith, below less)
      | inr more ↦ inl (x + g - (y + f), omega arith, omega arith, above more)
    ]
  where
    above : y + f ≤ x + g → IsZeros zeros (x + g - (y + f)) b
    above more = elim (cases_lt (x + g - (y + f)) b) [ inl few ↦ inl (omega arith) | inr many ↦ inr (omega arith, omega arith) ]

    below : x + g < y + f → IsZeros other_zeros (y + f - (x + g)) a
    below less = elim (cases_lt (y + f - (x + g)) a) [ inl few ↦ inl (omega arith) | inr many ↦ inr (omega arith, omega arith) ]

pub placed_order : (s t : Bool) (n m up other_up left right a b : ℕ) → n < 10 ^ a → m < 10 ^ b → Placed up other_up left right a b
    → signed_cmp s (n * 10 ^ up) t (m * 10 ^ other_up) ≡ signed_cmp s (n * 10 ^ left) t (m * 10 ^ right)
placed_order s t n m up other_up left right a b p q (inl h) =
    ap (λ (z : ℕ). signed_cmp s (n * 10 ^ z) t (m * 10 ^ other_up)) h.1 ∙ above_right s t n m other_up h.0 b left q h.3
    ∙ ap (λ (z : ℕ). signed_cmp s (n * 10 ^ left) t (m * 10 ^ z)) (sym h.2)
placed_order s t n m up other_up left right a b p q (inr h) =
    ap (λ (z : ℕ). signed_cmp s (n * 10 ^ up) t (m * 10 ^ z)) h.1 ∙ below_left s t n m up h.0 a right p h.3
    ∙ ap (λ (z : ℕ). signed_cmp s (n * 10 ^ z) t (m * 10 ^ right)) (sym h.2)

-- ---- whole values

pub times_signed : (s : Bool) (n k : ℕ) → integer_of s n *ℤ pos k ≡ integer_of s (n * k)
times_signed true zero k = ap pos (zero_times k) ∙ ap (λ (z : ℕ). neg_ℤ (pos z)) (sym (zero_times k))
  where
    zero_times : (k : ℕ) → 0 * k ≡ 0
    zero_times k = omega arith
times_signed true (suc n) k = refl
times_signed false n k = refl

pub whole_order : (s t : Bool) (n m up other_up : ℕ)
    → int_cmp (integer_of s n *ℤ pos (10 ^ up)) (integer_of t m *ℤ pos (10 ^ other_up)) ≡ signed_cmp s (n * 10 ^ up) t (m * 10 ^ other_up)
whole_order s t n m up other_up =
    ap₂ int_cmp (times_signed s n (10 ^ up)) (times_signed t m (10 ^ other_up)) ∙ int_cmp_signed s (n * 10 ^ up) t (m * 10 ^ other_up)

-- ---- the order is total

times_cmp : (x y : ℤ) (k : ℕ) → 0 < k → int_cmp (x *ℤ pos k) (y *ℤ pos k) ≡ int_cmp x y
times_cmp x y k p =
    let a = as_signed x in
    let b = as_signed y in
    ap₂ (λ (v w : ℤ). int_cmp (v *ℤ pos k) (w *ℤ pos k)) a.2 b.2
    ∙ ap₂ int_cmp (times_signed a.0 a.1 k) (times_signed b.0 b.1 k)
    ∙ int_cmp_signed a.0 (a.1 * k) b.0 (b.1 * k)
    ∙ signed_times a.0 b.0 a.1 b.1 k p
    ∙ sym (int_cmp_signed a.0 a.1 b.0 b.1)
    ∙ ap₂ int_cmp (sym a.2) (sym b.2)
  where
    as_signed : (x : ℤ) → (s : Bool) × (n : ℕ) × (x ≡ integer_of s n)
    as_signed (pos n) = (false, n, refl)
    as_signed (negsuc n) = (true, suc n, refl)

times_times : (x : ℤ) (j k : ℕ) → (x *ℤ pos j) *ℤ pos k ≡ x *ℤ pos (j * k)
times_times (pos n) j k = ap pos (mul_assoc n j k)
times_times (negsuc n) j k = times_signed true (suc n * j) k ∙ ap (integer_of true) (mul_assoc (suc n) j k)

-- a value times the power of ten that makes it and two others whole
abbrev pub wide : Value → ℕ → ℕ → ℤ
wide v more most = v.mantissa *ℤ pos (10 ^ (v.up + more + most))

whole_wide : (v : Value) (more most : ℕ) → whole_value v more *ℤ pos (10 ^ most) ≡ wide v more most
whole_wide v more most = times_times v.mantissa (10 ^ (v.up + more)) (10 ^ most) ∙ ap (λ (z : ℕ). v.mantissa *ℤ pos z) (sym (pow-add 10 (v.up + more) most))

order_wide : (a b : Value) (most : ℕ) → value_order a b ≡ int_cmp (wide a b.down most) (wide b a.down most)
unfolding value_order
order_wide a b most =
    sym (times_cmp (whole_value a b.down) (whole_value b a.down) (10 ^ most) (ten_pos most)) ∙ ap₂ int_cmp (whole_wide a b.down most) (whole_wide b a.down most)

-- the power of ten does not matter, if it makes both values whole
pub any_scale : (a b : Value) (more : ℕ) → value_order a b ≡ int_cmp (whole_value a (b.down + more)) (whole_value b (a.down + more))
any_scale a b more = order_wide a b more ∙ ap₂ int_cmp (one_sum a b.down more) (one_sum b a.down more)
  where
    one_sum : (v : Value) (i j : ℕ) → wide v i j ≡ whole_value v (i + j)
    one_sum v i j = ap (λ (z : ℕ). v.mantissa *ℤ pos (10 ^ z)) (omega arith)

swapped : (v : Value) (i j : ℕ) → wide v i j ≡ wide v j i
swapped v i j = ap (λ (z : ℕ). v.mantissa *ℤ pos (10 ^ z)) (omega arith)

-- three values on one scale
first_two : (a b c : Value) → value_order a b ≡ int_cmp (wide a b.down c.down) (wide b a.down c.down)
first_two a b c = order_wide a b c.down

last_two : (a b c : Value) → value_order b c ≡ int_cmp (wide b a.down c.down) (wide c a.down b.down)
last_two a b c = order_wide b c a.down ∙ ap₂ int_cmp (swapped b c.down a.down) (swapped c b.down a.down)

outer_two : (a b c : Value) → value_order a c ≡ int_cmp (wide a b.down c.down) (wide c a.down b.down)
outer_two a b c = order_wide a c b.down ∙ ap (λ (z : ℤ). int_cmp z (wide c a.down b.down)) (swapped a c.down b.down)

pub total_order : IsTotalOrder value_order
unfolding value_order
total_order = record {
  antisymm = λ a b. int_cmp_total.antisymm (whole_value a b.down) (whole_value b a.down);
  trans = λ a b c h k.
      outer_two a b c
      ∙ int_cmp_total.trans (wide a b.down c.down) (wide b a.down c.down) (wide c a.down b.down) (sym (first_two a b c) ∙ h) (sym (last_two a b c) ∙ k);
  congr = λ a b c h.
      outer_two a b c ∙ int_cmp_total.congr (wide a b.down c.down) (wide b a.down c.down) (wide c a.down b.down) (sym (first_two a b c) ∙ h)
      ∙ sym (last_two a b c);
}

pub same_value_equivalence : IsEquivalence is_same_value
same_value_equivalence = eq_by_cmp_equiv total_order

-- ---- what the program answers

regroup : (a b f : ℕ) → a + b + f ≡ a + (f + b)
regroup a b f = omega arith

pub answer_right : (p q : Parts) (far e zeros other_zeros last : ℕ) (r : Ordering) → 0 < far
    → e ≡ signed_apart far p.lowers (number_of p.exponent) q.lowers (number_of q.exponent)
    → zeros ≡ min ((e + length q.fraction) - (far + length p.fraction)) (length (q.whole ++ q.fraction))
    → other_zeros ≡ min ((far + length p.fraction) - (e + length q.fraction)) (length (p.whole ++ p.fraction))
    → length (q.whole ++ q.fraction) + length p.fraction ≤ far → length (p.whole ++ p.fraction) + length q.fraction ≤ far
    → last ≡ signed_apart far p.negative (number_of (p.whole ++ p.fraction) * 10 ^ zeros) q.negative (number_of (q.whole ++ q.fraction) * 10 ^ other_zeros)
    → r ≡ nat_cmp last far → r ≡ value_order (value_of p) (value_of q)
unfolding value_order value_of
answer_right p q far e zeros other_zeros last r f is left right room other_room ended answer =
    let s = p.negative in
    let t = q.negative in
    let a = p.whole ++ p.fraction in
    let b = q.whole ++ q.fraction in
    let n = number_of a in
    let m = number_of b in
    let x = sum_over p.lowers (number_of p.exponent) q.lowers (number_of q.exponent) in
    let y = sum_over q.lowers (number_of q.exponent) p.lowers (number_of p.exponent) in
    let v = n * 10 ^ zeros in
    let w = m * 10 ^ other_zeros in
    let up = x + length q.fraction in
    let other_up = y + length p.fraction in
    let here = placed far x y (length p.fraction) (length q.fraction) (length a) (length b) e zeros other_zeros is left right room other_room in
    answer
    ∙ ap (λ (z : ℕ). nat_cmp z far) ended
    ∙ apart_cmp far (sum_over s v t w) (sum_over t w s v) f
    ∙ sym (placed_order s t n m up other_up zeros other_zeros (length a) (length b) (number_below a) (number_below b) here)
    ∙ sym (whole_order s t n m up other_up)
    ∙ ap₂ (λ (i j : ℕ). int_cmp (integer_of s n *ℤ pos (10 ^ i)) (integer_of t m *ℤ pos (10 ^ j)))
    (regroup (if p.lowers then 0 else number_of p.exponent) (if q.lowers then number_of q.exponent else 0) (length q.fraction))
    (regroup (if q.lowers then 0 else number_of q.exponent) (if p.lowers then number_of p.exponent else 0) (length p.fraction))
