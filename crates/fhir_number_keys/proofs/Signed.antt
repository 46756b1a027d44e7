-- Keys and values with their signs.
use Rattle.std.proofs.Common.{◌≡◌, ◌↔◌, ℕ, zero, suc, ◌+◌, ◌*◌, ◌^◌, ◌<◌, true, ◌∷◌, codes, refl, sym, ap, ◌∙◌, arith, inl, inr}
use Rattle.std.specs.Prelude.{ℤ, pos, negsuc, neg_ℤ, nat_abs, ◌*ℤ◌, slice_index}
use Rattle.std.specs.declared.cmp.Ordering.{Ordering}
use Rattle.std.specs.declared.cmp.Ordering.TheVariants.{Less, Equal, Greater}
use Rattle.std.specs.Ordering.{int_cmp, is_eq}
use Rattle.std.proofs.lemmas.Bool.{cases_lt}
use Rattle.std.proofs.lemmas.Cmp.{tied_itself, int_cmp_total}
use Rattle.std.proofs.lemmas.Map.Lookups.{exact_signed}
use Rattle.fhir_json.specs.Tree.{Text}
use Rattle.fhir_decimal.specs.Value.{Value, whole_value, value_order, is_same_value}
use Rattle.fhir_number_keys.specs.Digits.{digits_of}
use Rattle.fhir_number_keys.specs.Keys.{far, sign_of, key_with, key_of}
use Rattle.fhir_number_keys.proofs.Lowest.{right}
use Rattle.fhir_number_keys.proofs.OneKey.{parts_of, nothing, one_key, product_over, ten_pos}
use Rattle.fhir_number_keys.proofs.OneValue.{one_value}

tied : (x y : ℤ) → is_eq (int_cmp x y) ≡ true → x ≡ y
tied x y h = go (int_cmp x y) refl h
  where
    go : (o : Ordering) → int_cmp x y ≡ o → is_eq o ≡ true → x ≡ y
    go Less is e = absurd cc
    go Equal is e = exact_signed x y is
    go Greater is e = absurd cc

-- a sign and what is without one
abbrev pub key_at : ℤ → ℕ → ℕ → Text
key_at a up down = key_with far (sign_of a) (digits_of (nat_abs a)) up down

other_signs : (m n up down other_up other_down : ℕ) → key_with far (codes "+") (digits_of m) up down ≡ key_with far (codes "-") (digits_of (suc n)) other_up other_down → ⊥
other_signs m n up down other_up other_down same =
    let two = parts_of far (codes "-") (digits_of (suc n)) other_up other_down (omega (arith, (right (suc n)).number)) in
    elim (cases_lt 0 m) [
      | inl some ↦ let one = parts_of far (codes "+") (digits_of m) up down (omega (arith, (right m).number, some)) in not_plus (sym one ∙ same ∙ two)
      | inr none ↦ let one = nothing far (codes "+") m up down (omega (arith, none)) in not_zero (sym one ∙ same ∙ two)
    ]
  where
    not_plus : {xs ys : Text} → 43 ∷ xs ≡ 45 ∷ ys → ⊥
    not_plus h = let e : 43 ≡ 45 = ap (λ (t : Text). slice_index t 0) h in omega (arith, e)

    not_zero : {ys : Text} → codes "0" ≡ 45 ∷ ys → ⊥
    not_zero h = let e : 48 ≡ 45 = ap (λ (t : Text). slice_index t 0) h in omega (arith, e)

magnitude : (n : ℕ) → nat_abs (neg_ℤ (pos n)) ≡ n
magnitude zero = refl
magnitude (suc n) = refl

apart : (x y : ℕ) → 0 < y → pos x ≡ neg_ℤ (pos y) → ⊥
apart x zero some same = omega (arith, some)
apart x (suc y) some same = cc

keys_at : (a b : ℤ) (up down other_up other_down : ℕ)
    → (key_at a up down ≡ key_at b other_up other_down) ↔ (a *ℤ pos (10 ^ (up + other_down)) ≡ b *ℤ pos (10 ^ (other_up + down)))
keys_at (pos m) (pos n) up down other_up other_down = (
  (λ h. ap pos (one_value far 43 m n up down other_up other_down (omega arith) h)),
  (λ h. one_key far (codes "+") m n up down other_up other_down (ap nat_abs h)),
)
keys_at (pos m) (negsuc n) up down other_up other_down = (
  (λ h. absurd (other_signs m n up down other_up other_down h)),
  (λ h. absurd (apart (m * 10 ^ (up + other_down)) (suc n * 10 ^ (other_up + down)) (product_over (suc n) _ (omega arith) (ten_pos (other_up + down))) h)),
)
keys_at (negsuc m) (pos n) up down other_up other_down = (
  (λ h. absurd (other_signs n m other_up other_down up down (sym h))),
  (λ h. absurd (apart (n * 10 ^ (other_up + down)) (suc m * 10 ^ (up + other_down)) (product_over (suc m) _ (omega arith) (ten_pos (up + other_down))) (sym h))),
)
keys_at (negsuc m) (negsuc n) up down other_up other_down = (
  (λ h. ap (λ k. neg_ℤ (pos k)) (one_value far 45 (suc m) (suc n) up down other_up other_down (omega arith) h)),
  (λ h.
      one_key far (codes "-") (suc m) (suc n) up down other_up other_down
      (sym (magnitude (suc m * 10 ^ (up + other_down))) ∙ ap nat_abs h ∙ magnitude (suc n * 10 ^ (other_up + down)))),
)

pub keys_right : (a b : Value) → (key_of a ≡ key_of b) ↔ (is_same_value a b ≡ true)
unfolding key_of value_order
keys_right a b =
    let r = keys_at a.mantissa b.mantissa a.up a.down b.up b.down in (
      (λ h. let e = r.0 h in ap (λ z. is_eq (int_cmp (whole_value a b.down) z)) (sym e) ∙ ap is_eq (tied_itself int_cmp_total (whole_value a b.down))),
      (λ h. r.1 (tied (whole_value a b.down) (whole_value b a.down) h)),
    )
