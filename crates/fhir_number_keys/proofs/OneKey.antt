-- Numbers of one value have one key, and others have others.
use Rattle.std.proofs.Common.{◌≡◌, ℕ, zero, suc, ◌+◌, ◌-◌, ◌*◌, ◌^◌, ◌<◌, ◌≤◌, inl, inr, List, [], ◌∷◌, ◌++◌, drop, codes, refl, sym, ap, ap₂, ◌∙◌, arith}
use Rattle.std.proofs.lemmas.Bool.{cases_lt}
use Rattle.std.proofs.Math.Nat.{pow-succ'}
use Rattle.std.proofs.lemmas.Nat.{mul-le}
use Rattle.fhir_json.specs.Tree.{Text}
use Rattle.fhir_number_keys.specs.Digits.{number_in, digits_of, zeros_in, written}
use Rattle.fhir_number_keys.specs.Keys.{exponent_key, key_with}
use Rattle.fhir_number_keys.proofs.Lowest.{right}
use Rattle.fhir_number_keys.proofs.Shifted.{one_row}
use Rattle.fhir_number_keys.proofs.Exponents.{above, below}

-- ---- numbers of one value have one key

exponent_one : (far u d v e : ℕ) → u + e ≡ v + d → exponent_key far u d ≡ exponent_key far v e
exponent_one far u d v e same = elim (cases_lt (far + u) d) [
  | inl less ↦ sym (below far u d ((far + d) - u) less refl) ∙ below far v e ((far + d) - u) (omega (arith, same, less)) (omega (arith, same, less))
  | inr more ↦ sym (above far u d ((far + u) - d) more refl) ∙ above far v e ((far + u) - d) (omega (arith, same, more)) (omega (arith, same, more))
]

-- the key of digits, where there are any
pub parts_of : (far : ℕ) (sign : Text) (ds : List ℕ) (up down : ℕ) → 0 < number_in ds
    → key_with far sign ds up down ≡ sign ++ (written (drop (zeros_in ds) ds) ++ exponent_key far (zeros_in ds + up) down)
parts_of far sign [] up down some = absurd (omega (arith, some))
parts_of far sign (d ∷ ds) up down some = refl

pub nothing : (far : ℕ) (sign : Text) (n up down : ℕ) → n ≡ 0 → key_with far sign (digits_of n) up down ≡ codes "0"
unfolding digits_of
nothing far sign n up down none = ap (λ k. key_with far sign (digits_of k) up down) none

pub product_over : (m w : ℕ) → 0 < m → 0 < w → 0 < m * w
product_over m w some other = let p : 1 * 1 ≤ m * w = mul-le 1 1 m w (omega (arith, some)) (omega (arith, other)) in omega (arith, p)

-- where the one product is 0, so is the first factor of the other
other_nothing : (m n w v : ℕ) → m * w ≡ n * v → n ≡ 0 → 0 < w → m ≡ 0
other_nothing m n w v same none some = elim (cases_lt 0 m) [
  | inl over ↦
      let p = product_over m w over some in
      let q : n * v ≡ 0 = ap (λ k. k * v) none ∙ omega arith in
      absurd (omega (arith, p, q, same))
  | inr under ↦ omega (arith, under)
]

pub ten_pos : (k : ℕ) → 0 < 10 ^ k
ten_pos zero = omega arith
ten_pos (suc k) = let p = ten_pos k in rw (pow-succ' 10 k) (omega arith)

pub one_key : (far : ℕ) (sign : Text) (m n up down other_up other_down : ℕ) → m * 10 ^ (up + other_down) ≡ n * 10 ^ (other_up + down)
    → key_with far sign (digits_of m) up down ≡ key_with far sign (digits_of n) other_up other_down
one_key far sign m n up down other_up other_down same = elim (cases_lt 0 n) [
  | inl some ↦ elim (cases_lt 0 m) [
    | inl also ↦
        let r = one_row m n (up + other_down) (other_up + down) also some same in
        let z = zeros_in (digits_of m) in
        let y = zeros_in (digits_of n) in
        parts_of far sign (digits_of m) up down (omega (arith, (right m).number, also))
        ∙ ap₂ (λ t e. sign ++ (written t ++ e)) r.1 (exponent_one far (z + up) down (y + other_up) other_down (omega (arith, r.0)))
        ∙ sym (parts_of far sign (digits_of n) other_up other_down (omega (arith, (right n).number, some)))
    | inr none ↦
        let zero_too = other_nothing n m (10 ^ (other_up + down)) (10 ^ (up + other_down)) (sym same) (omega (arith, none)) (ten_pos (other_up + down)) in
        absurd (omega (arith, zero_too, some))
  ]
  | inr none ↦
      let n_none : n ≡ 0 = omega (arith, none) in
      let m_none = other_nothing m n (10 ^ (up + other_down)) (10 ^ (other_up + down)) same n_none (ten_pos (up + other_down)) in
      nothing far sign m up down m_none ∙ sym (nothing far sign n other_up other_down n_none)
]
