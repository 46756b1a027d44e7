-- Texts and values that are one.
use Rattle.std.proofs.Common.{◌≡◌, ℕ, suc, ◌+◌, ◌*◌, ◌^◌, Bool, true, List, [], ◌∷◌, ◌++◌, length, refl, sym, ap, ap₂, ◌∙◌, append_assoc, arith}
use Rattle.std.specs.Prelude.{if◌then◌else◌, pos, ◌*ℤ◌}
use Rattle.std.specs.declared.cmp.Ordering.TheVariants.{Equal}
use Rattle.std.specs.Ordering.{int_cmp, is_eq}
use Rattle.std.proofs.lemmas.Cmp.{tied_itself, nat_cmp_total, int_cmp_total}
use Rattle.std.proofs.lemmas.List.{length-append}
use Rattle.std.proofs.Math.Nat.{pow-succ'}
use Rattle.fhir_decimal.specs.Text.{Parts}
use Rattle.fhir_decimal.specs.Value.{Value, digit_value, number_of, value_of, value_order, is_same_value}
use Rattle.fhir_decimal.specs.Rows.{sum_over}
use Rattle.fhir_decimal.proofs.Order.{signed_cmp, whole_order}

ten_times : (d w n : ℕ) → d * (10 * w) + 10 * n ≡ 10 * (d * w + n)
ten_times d w n = grind arith

-- one more 0 is ten times the number
zero_behind : (ds : List ℕ) → number_of (ds ++ 48 ∷ []) ≡ 10 * number_of ds
zero_behind [] = refl
zero_behind (d ∷ ds) =
    let longer : length (ds ++ 48 ∷ []) ≡ suc (length ds) = omega (arith, length-append ds (48 ∷ [])) in
    ap₂ (λ (i m : ℕ). digit_value d * 10 ^ i + m) longer (zero_behind ds)
    ∙ ap (λ (w : ℕ). digit_value d * w + 10 * number_of ds) (pow-succ' 10 (length ds))
    ∙ ten_times (digit_value d) (10 ^ length ds) (number_of ds)

one_place : (n w : ℕ) → (10 * n) * w ≡ n * (10 * w)
one_place n w = grind arith

same_numbers : (s : Bool) (x y : ℕ) → x ≡ y → signed_cmp s x s y ≡ Equal
same_numbers s x y e = ap (λ (z : ℕ). signed_cmp s x s z) (sym e) ∙ tied_itself nat_cmp_total (sum_over s x s x)

pub fraction_longer : (p : Parts) → is_same_value (value_of (record p { fraction = p.fraction ++ 48 ∷ [] })) (value_of p) ≡ true
unfolding value_of value_order
fraction_longer p =
    let s = p.negative in
    let n = number_of (p.whole ++ p.fraction) in
    let more = number_of (p.whole ++ (p.fraction ++ 48 ∷ [])) in
    let up = if p.lowers then 0 else number_of p.exponent in
    let lower = if p.lowers then number_of p.exponent else 0 in
    let digits : more ≡ 10 * n = ap number_of (sym (append_assoc p.whole p.fraction (48 ∷ []))) ∙ zero_behind (p.whole ++ p.fraction) in
    let low = up + (length p.fraction + lower) in
    let high = up + (length (p.fraction ++ 48 ∷ []) + lower) in
    let higher : high ≡ suc low = omega (arith, length-append p.fraction (48 ∷ [])) in
    let same : more * 10 ^ low ≡ n * 10 ^ high =
    ap (λ (m : ℕ). m * 10 ^ low) digits ∙ one_place n (10 ^ low) ∙ ap (λ (w : ℕ). n * w) (sym (pow-succ' 10 low)) ∙ ap (λ (k : ℕ). n * 10 ^ k) (sym higher)
    in
    ap is_eq (whole_order s s more n low high ∙ same_numbers s (more * 10 ^ low) (n * 10 ^ high) same)

pub zeros_same : (a b : Value) → a.mantissa ≡ pos 0 → b.mantissa ≡ pos 0 → is_same_value a b ≡ true
unfolding value_order
zeros_same a b e f =
    ap is_eq (ap₂ int_cmp (nothing (10 ^ (a.up + b.down)) a e) (nothing (10 ^ (b.up + a.down)) b f) ∙ tied_itself int_cmp_total (pos 0))
  where
    nothing : (k : ℕ) (v : Value) → v.mantissa ≡ pos 0 → v.mantissa *ℤ pos k ≡ pos 0
    nothing k v g =
        let none : 0 * k ≡ 0 = omega arith in
        ap (λ z. z *ℤ pos k) g ∙ ap pos none
