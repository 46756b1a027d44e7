-- Numbers of one key have one value.
use Rattle.std.proofs.Common.{◌≡◌, ℕ, zero, suc, ◌+◌, ◌-◌, ◌*◌, ◌%◌, ◌^◌, ◌<◌, inl, inr, List, [], ◌∷◌, ◌++◌, drop, codes, refl, sym, ap, ap₂, ◌∙◌, arith}
use Rattle.std.proofs.lemmas.Bool.{cases_lt}
use Rattle.std.proofs.lemmas.Nat.{pow-add}
use Rattle.fhir_json.specs.Tree.{Text}
use Rattle.fhir_number_keys.specs.Digits.{number_in, AreDigits, digits_of, zeros_in, digit_byte, written}
use Rattle.fhir_number_keys.specs.Keys.{exponent_key, key_with}
use Rattle.fhir_number_keys.proofs.Lowest.{right}
use Rattle.fhir_number_keys.proofs.Shifted.{without_zeros}
use Rattle.fhir_number_keys.proofs.Exponents.{above, below}
use Rattle.fhir_number_keys.proofs.OneKey.{parts_of, nothing}

-- ---- digits

-- what is no digit ends the digits
split : (ds es : List ℕ) (c d : ℕ) (xs ys : Text) → c < 48 → d < 48 → written ds ++ (c ∷ xs) ≡ written es ++ (d ∷ ys) → (written ds ≡ written es) × (c ≡ d) × (xs ≡ ys)
split [] [] c d xs ys p q same = (refl, cc, cc)
split [] (e ∷ es) c d xs ys p q same = let first : c ≡ 48 + e % 10 = cc in absurd (omega (arith, first, p))
split (d ∷ ds) [] c f xs ys p q same = let first : 48 + d % 10 ≡ f = cc in absurd (omega (arith, first, q))
split (d ∷ ds) (e ∷ es) c f xs ys p q same =
    let first : digit_byte d ≡ digit_byte e = cc in
    let later : written ds ++ (c ∷ xs) ≡ written es ++ (f ∷ ys) = cc in
    let r = split ds es c f xs ys p q later in
    (ap₂ (λ b bs. b ∷ bs) first r.0, r.1, r.2)

unwritten : (ds es : List ℕ) → AreDigits ds → AreDigits es → written ds ≡ written es → ds ≡ es
unwritten [] [] h k same = refl
unwritten [] (e ∷ es) h k same = absurd cc
unwritten (d ∷ ds) [] h k same = absurd cc
unwritten (d ∷ ds) (e ∷ es) h k same =
    let first : 48 + d % 10 ≡ 48 + e % 10 = cc in
    let later : written ds ≡ written es = cc in
    let digit : d ≡ e = omega (arith, first, h.0, k.0) in
    ap₂ (λ n ns. n ∷ ns) digit (unwritten ds es h.1 k.1 later)

digits_behind : (n : ℕ) (ds : List ℕ) → AreDigits ds → AreDigits (drop n ds)
digits_behind zero ds h = h
digits_behind (suc n) [] h = tt
digits_behind (suc n) (d ∷ ds) h = digits_behind n ds h.1

one_number : (m n : ℕ) → written (digits_of m) ≡ written (digits_of n) → m ≡ n
one_number m n same =
    sym (right m).number ∙ ap number_in (unwritten (digits_of m) (digits_of n) (right m).digits (right n).digits same) ∙ (right n).number

-- ---- exponents

exponent_back : (far u d v e : ℕ) → exponent_key far u d ≡ exponent_key far v e → u + e ≡ v + d
exponent_back far u d v e same = elim (cases_lt (far + u) d) [
  | inl less ↦ elim (cases_lt (far + v) e) [
    | inl other ↦
        let texts = below far u d ((far + d) - u) less refl ∙ same ∙ sym (below far v e ((far + e) - v) other refl) in
        let n = one_number ((far + d) - u) ((far + e) - v) (behind 45 45 _ _ texts) in
        omega (arith, n, less, other)
    | inr other ↦
        let texts = below far u d ((far + d) - u) less refl ∙ same ∙ sym (above far v e ((far + v) - e) other refl) in
        absurd (signs texts)
  ]
  | inr more ↦ elim (cases_lt (far + v) e) [
    | inl other ↦
        let texts = above far u d ((far + u) - d) more refl ∙ same ∙ sym (below far v e ((far + e) - v) other refl) in
        absurd (signs (sym texts))
    | inr other ↦
        let texts = above far u d ((far + u) - d) more refl ∙ same ∙ sym (above far v e ((far + v) - e) other refl) in
        let n = one_number ((far + u) - d) ((far + v) - e) (behind 43 43 _ _ texts) in
        omega (arith, n, more, other)
  ]
]
  where
    behind : (c d : ℕ) (xs ys : Text) → c ∷ xs ≡ d ∷ ys → xs ≡ ys
    behind c d xs ys h = cc

    signs : {xs ys : Text} → 45 ∷ xs ≡ 43 ∷ ys → ⊥
    signs h = cc

pub record Begun (t : Text) : Type 0 where
  pub first : ℕ
  pub later : Text
  pub small : first < 48
  pub text : t ≡ first ∷ later

begun : (far u d : ℕ) → Begun (exponent_key far u d)
begun far u d = elim (cases_lt (far + u) d) [
  | inl less ↦ record { first = 45; later = written (digits_of ((far + d) - u)); small = omega arith; text = sym (below far u d ((far + d) - u) less refl) }
  | inr more ↦ record { first = 43; later = written (digits_of ((far + u) - d)); small = omega arith; text = sym (above far u d ((far + u) - d) more refl) }
]

-- ---- numbers

tail_is : (g : ℕ) (xs ys : Text) → g ∷ xs ≡ g ∷ ys → xs ≡ ys
tail_is g xs ys h = cc

no_sign : (g : ℕ) (xs : Text) → g < 48 → codes "0" ≡ g ∷ xs → ⊥
no_sign g xs h same = let e : 48 ≡ g = cc in omega (arith, e, h)

-- the exponents and the digits without zeros
same_parts : (far : ℕ) (ds es : List ℕ) (u d v e : ℕ) → AreDigits ds → AreDigits es → written ds ++ exponent_key far u d ≡ written es ++ exponent_key far v e
    → (ds ≡ es) × (u + e ≡ v + d)
same_parts far ds es u d v e h k same =
    let a = begun far u d in
    let b = begun far v e in
    let r =
    split ds es a.first b.first a.later b.later a.small b.small
    (ap (λ t. written ds ++ t) (sym a.text) ∙ same ∙ ap (λ t. written es ++ t) b.text) in
    (unwritten ds es h k r.0, exponent_back far u d v e (a.text ∙ ap₂ (λ b bs. b ∷ bs) r.1 r.2 ∙ sym b.text))

pub one_value : (far g m n up down other_up other_down : ℕ) → g < 48
    → key_with far (g ∷ []) (digits_of m) up down ≡ key_with far (g ∷ []) (digits_of n) other_up other_down
    → m * 10 ^ (up + other_down) ≡ n * 10 ^ (other_up + down)
one_value far g m n up down other_up other_down small same = elim (cases_lt 0 m) [
  | inl some ↦ elim (cases_lt 0 n) [
    | inl also ↦
        let ds = digits_of m in
        let es = digits_of n in
        let z = zeros_in ds in
        let y = zeros_in es in
        let one = sym (parts_of far (g ∷ []) ds up down (omega (arith, (right m).number, some))) in
        let two = parts_of far (g ∷ []) es other_up other_down (omega (arith, (right n).number, also)) in
        let r = same_parts far (drop z ds) (drop y es) (z + up) down (y + other_up) other_down (digits_behind z ds (right m).digits) (digits_behind y es (right n).digits)
        (tail_is g _ _ (one ∙ same ∙ two)) in
        let exponents : z + (up + other_down) ≡ y + (other_up + down) = omega (arith, r.1) in
        scaled m z (up + other_down) (number_in (drop z ds)) (sym (right m).number ∙ without_zeros ds)
        ∙ ap₂ (λ (ks : List ℕ) (p : ℕ). number_in ks * 10 ^ p) r.0 exponents
        ∙ sym (scaled n y (other_up + down) (number_in (drop y es)) (sym (right n).number ∙ without_zeros es))
    | inr none ↦
        let zero_text = nothing far (g ∷ []) n other_up other_down (omega (arith, none)) in
        let one = parts_of far (g ∷ []) (digits_of m) up down (omega (arith, (right m).number, some)) in
        absurd (no_sign g _ small (sym zero_text ∙ sym same ∙ one))
  ]
  | inr none ↦ elim (cases_lt 0 n) [
    | inl also ↦
        let zero_text = nothing far (g ∷ []) m up down (omega (arith, none)) in
        let two = parts_of far (g ∷ []) (digits_of n) other_up other_down (omega (arith, (right n).number, also)) in
        absurd (no_sign g _ small (sym zero_text ∙ same ∙ two))
    | inr too ↦
        let a : m ≡ 0 = omega (arith, none) in
        let b : n ≡ 0 = omega (arith, too) in
        let c : 0 * 10 ^ (up + other_down) ≡ 0 * 10 ^ (other_up + down) = omega arith in
        ap (λ k. k * 10 ^ (up + other_down)) a ∙ c ∙ ap (λ k. k * 10 ^ (other_up + down)) (sym b)
  ]
]
  where
    side : (r v w : ℕ) → (r * v) * w ≡ r * (v * w)
    side r v w = grind arith

    scaled : (k z p r : ℕ) → k ≡ r * 10 ^ z → k * 10 ^ p ≡ r * 10 ^ (z + p)
    scaled k z p r is = ap (λ j. j * 10 ^ p) is ∙ side r (10 ^ z) (10 ^ p) ∙ ap (λ w. r * w) (sym (pow-add 10 z p))
