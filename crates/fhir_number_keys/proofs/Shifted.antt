-- Zeros at the end of a number are powers of ten.
use Rattle.std.proofs.Common.{◌≡◌, ℕ, zero, suc, ◌+◌, ◌*◌, ◌^◌, ◌<◌, Bool, true, false, List, [], ◌∷◌, drop, refl, sym, ap, ap₂, ◌∙◌, arith}
use Rattle.std.specs.Prelude.{nat_eq}
use Rattle.std.proofs.Math.Nat.{pow-succ'}
use Rattle.fhir_number_keys.specs.Digits.{number_in, AreDigits, digits_of, zeros_in}
use Rattle.fhir_number_keys.proofs.Lowest.{Ends, Right, right, digits_are}

abbrev pub zeros_before : ℕ → List ℕ → List ℕ
zeros_before zero ds = ds
zeros_before (suc n) ds = 0 ∷ zeros_before n ds

before_number : (x : ℕ) (ds : List ℕ) → number_in (zeros_before x ds) ≡ number_in ds * 10 ^ x
before_number zero ds = omega arith
before_number (suc x) ds = ap (λ n. 0 + 10 * n) (before_number x ds) ∙ side (number_in ds) (10 ^ x) ∙ ap (λ w. number_in ds * w) (sym (pow-succ' 10 x))
  where
    side : (n w : ℕ) → 0 + 10 * (n * w) ≡ n * (10 * w)
    side n w = grind arith

before_digits : (x : ℕ) (ds : List ℕ) → AreDigits ds → AreDigits (zeros_before x ds)
before_digits zero ds h = h
before_digits (suc x) ds h = (omega arith, before_digits x ds h)

before_ends : (x d : ℕ) (ds : List ℕ) → Ends (d ∷ ds) → Ends (zeros_before x (d ∷ ds))
before_ends zero d ds h = h
before_ends (suc zero) d ds h = h
before_ends (suc (suc x)) d ds h = before_ends (suc x) d ds h

-- the digits of a number times a power of ten
pub shifted : (m x : ℕ) → 0 < m → digits_of (m * 10 ^ x) ≡ zeros_before x (digits_of m)
shifted m x some = go (digits_of m) (right m)
  where
    go : (ds : List ℕ) → Right m ds → digits_of (m * 10 ^ x) ≡ zeros_before x ds
    go [] r = absurd (omega (arith, r.number, some))
    go (d ∷ ds) r =
        ap digits_of (ap (λ n. n * 10 ^ x) (sym r.number) ∙ sym (before_number x (d ∷ ds)))
        ∙ sym (digits_are (zeros_before x (d ∷ ds)) (before_digits x (d ∷ ds) r.digits) (before_ends x d ds r.ends))

pub zeros_more : (x : ℕ) (ds : List ℕ) → zeros_in (zeros_before x ds) ≡ x + zeros_in ds
zeros_more zero ds = omega arith
zeros_more (suc x) ds = ap (λ (k : ℕ). 1 + k) (zeros_more x ds) ∙ omega arith

pub drop_more : (x z : ℕ) (ds : List ℕ) → drop (x + z) (zeros_before x ds) ≡ drop z ds
drop_more zero z ds = let e : 0 + z ≡ z = omega arith in ap (λ k. drop k ds) e
drop_more (suc x) z ds = let e : suc x + z ≡ suc (x + z) = omega arith in ap (λ k. drop k (0 ∷ zeros_before x ds)) e ∙ drop_more x z ds

-- the digits without their zeros, and these
pub without_zeros : (ds : List ℕ) → number_in ds ≡ number_in (drop (zeros_in ds) ds) * 10 ^ zeros_in ds
without_zeros [] = omega arith
without_zeros (d ∷ ds) = go (nat_eq d 0) refl (without_zeros ds)
  where
    side : (n w : ℕ) → 0 + 10 * (n * w) ≡ n * (10 * w)
    side n w = grind arith

    go : (b : Bool) → nat_eq d 0 ≡ b → number_in ds ≡ number_in (drop (zeros_in ds) ds) * 10 ^ zeros_in ds
        → number_in (d ∷ ds) ≡ number_in (drop (zeros_in (d ∷ ds)) (d ∷ ds)) * 10 ^ zeros_in (d ∷ ds)
    go true is later =
        let none : d ≡ 0 = grind (arith, is) in
        let z = zeros_in ds in
        let rest = number_in (drop z ds) in
        let e : 1 + z ≡ suc z = omega arith in
        rw is
        (ap₂ (λ k n. k + 10 * n) none later ∙ side rest (10 ^ z) ∙ ap (λ w. rest * w) (sym (pow-succ' 10 z))
        ∙ ap (λ (k : ℕ). number_in (drop k (d ∷ ds)) * 10 ^ k) (sym e))
    go false is later = rw is (omega arith)

-- two numbers of one value: as many zeros in all, and one row of digits before them
pub one_row : (m n x y : ℕ) → 0 < m → 0 < n → m * 10 ^ x ≡ n * 10 ^ y
    → (x + zeros_in (digits_of m) ≡ y + zeros_in (digits_of n)) × (drop (zeros_in (digits_of m)) (digits_of m) ≡ drop (zeros_in (digits_of n)) (digits_of n))
one_row m n x y some other same =
    let rows : zeros_before x (digits_of m) ≡ zeros_before y (digits_of n) = sym (shifted m x some) ∙ ap digits_of same ∙ shifted n y other in
    let zeros : x + zeros_in (digits_of m) ≡ y + zeros_in (digits_of n) = sym (zeros_more x (digits_of m)) ∙ ap zeros_in rows ∙ zeros_more y (digits_of n) in (
      zeros,
      sym (drop_more x (zeros_in (digits_of m)) (digits_of m)) ∙ ap₂ drop zeros rows ∙ drop_more y (zeros_in (digits_of n)) (digits_of n),
    )
