-- Digits without zeros at the end are those of their number.
use Rattle.std.proofs.Common.{◌≡◌, ℕ, zero, suc, ◌+◌, ◌-◌, ◌*◌, ◌/◌, ◌%◌, ◌<◌, ◌≤◌, Bool, true, false, List, [], ◌∷◌, length, take, Some, None, refl, sym, ap, ap₂, ◌∙◌, arith}
use Rattle.std.specs.Prelude.{⊤, slice_get, nat_eq, if◌then◌else◌}
use Rattle.fhir_number_keys.specs.Digits.{number_in, AreDigits, digits_within, digits_of}

-- they end, if at all, with a digit that isn't 0
abbrev pub Ends : List ℕ → Type 0
Ends [] = ⊤
Ends (d ∷ []) = 0 < d
Ends (d ∷ (e ∷ ds)) = Ends (e ∷ ds)

pub is_over : (d : ℕ) (ds : List ℕ) → Ends (d ∷ ds) → 0 < number_in (d ∷ ds)
is_over d [] h = omega (arith, h)
is_over d (e ∷ ds) h = let p = is_over e ds h in omega (arith, p)

ends_later : (d : ℕ) (ds : List ℕ) → Ends (d ∷ ds) → Ends ds
ends_later d [] h = tt
ends_later d (e ∷ ds) h = h

within_is : (ds : List ℕ) (most : ℕ) → AreDigits ds → Ends ds → number_in ds ≤ most → digits_within most (number_in ds) ≡ ds
within_is [] zero h e l = refl
within_is [] (suc most) h e l = refl
within_is (d ∷ ds) zero h e l = let p = is_over d ds e in absurd (omega (arith, p, l))
within_is (d ∷ ds) (suc most) h e l =
    let p = is_over d ds e in
    let n = number_in ds in
    let some : nat_eq (d + 10 * n) 0 ≡ false = grind (arith, p) in
    let last : (d + 10 * n) % 10 ≡ d = omega (arith, h.0) in
    let rest : (d + 10 * n) / 10 ≡ n = omega (arith, h.0) in
    rw some (ap₂ (λ (x y : ℕ). x ∷ digits_within most y) last rest ∙ ap (λ ks. d ∷ ks) (within_is ds most h.1 (ends_later d ds e) (omega (arith, p, l))))

-- the digits of their number
pub digits_are : (ds : List ℕ) → AreDigits ds → Ends ds → ds ≡ digits_of (number_in ds)
unfolding digits_of
digits_are ds h e = sym (within_is ds (number_in ds) h e (omega arith))

-- a last digit that isn't 0
pub ends_with : (ds : List ℕ) (n e : ℕ) → length ds ≡ suc n → slice_get ds n ≡ Some e → 0 < e → Ends ds
ends_with [] n e h is some = tt
ends_with (d ∷ []) zero e h is some = let same : d ≡ e = cc in omega (arith, same, some)
ends_with (d ∷ []) (suc n) e h is some = absurd (omega (arith, h))
ends_with (d ∷ (f ∷ ds)) zero e h is some = absurd (omega (arith, h))
ends_with (d ∷ (f ∷ ds)) (suc n) e h is some = ends_with (f ∷ ds) n e (omega (arith, h)) is some

-- without a 0 at their end
pub shorter_number : (ds : List ℕ) (n e : ℕ) → length ds ≡ suc n → slice_get ds n ≡ Some e → e ≡ 0 → number_in (take n ds) ≡ number_in ds
shorter_number [] n e h is none = absurd (omega (arith, h))
shorter_number (d ∷ []) zero e h is none = let same : d ≡ e = cc in omega (arith, same, none)
shorter_number (d ∷ []) (suc n) e h is none = absurd (omega (arith, h))
shorter_number (d ∷ (f ∷ ds)) zero e h is none = absurd (omega (arith, h))
shorter_number (d ∷ (f ∷ ds)) (suc n) e h is none = ap (λ (m : ℕ). d + 10 * m) (shorter_number (f ∷ ds) n e (omega (arith, h)) is none)

pub shorter_digits : (ds : List ℕ) (n : ℕ) → AreDigits ds → AreDigits (take n ds)
shorter_digits [] zero h = tt
shorter_digits [] (suc n) h = tt
shorter_digits (d ∷ ds) zero h = tt
shorter_digits (d ∷ ds) (suc n) h = (h.0, shorter_digits ds n h.1)

pub there : (ds : List ℕ) (n e : ℕ) → slice_get ds n ≡ Some e → n < length ds
there [] n e is = absurd cc
there (d ∷ ds) zero e is = omega arith
there (d ∷ ds) (suc n) e is = omega (arith, there ds n e is)

-- no last digit
pub no_end : (ds : List ℕ) → slice_get ds (length ds - 1) ≡ None → Ends ds
no_end [] is = tt
no_end (d ∷ ds) is = absurd (here (d ∷ ds) (length (d ∷ ds) - 1) (omega arith) is)
  where
    here : (es : List ℕ) (n : ℕ) → n < length es → slice_get es n ≡ None → ⊥
    here [] n h is = omega (arith, h)
    here (e ∷ es) zero h is = cc
    here (e ∷ es) (suc n) h is = here es n (omega (arith, h)) is

-- ---- the digits of a number

ends_before : (d : ℕ) (ds : List ℕ) → Ends ds → 0 < number_in (d ∷ ds) → Ends (d ∷ ds)
ends_before d [] e h = omega (arith, h)
ends_before d (f ∷ ds) e h = e

pub record Right (n : ℕ) (ds : List ℕ) : Type 0 where
  pub number : number_in ds ≡ n
  pub digits : AreDigits ds
  pub ends : Ends ds

within_right : (most n : ℕ) → n ≤ most → Right n (digits_within most n)
within_right zero n l = record { number = omega (arith, l); digits = tt; ends = tt }
within_right (suc most) n l = go (nat_eq n 0) refl (within_right most (n / 10))
  where
    go : (b : Bool) → nat_eq n 0 ≡ b → (n / 10 ≤ most → Right (n / 10) (digits_within most (n / 10))) → Right n (if b then [] else n % 10 ∷ digits_within most (n / 10))
    go true is rest = let none : n ≡ 0 = grind (arith, is) in record { number = omega (arith, none); digits = tt; ends = tt }
    go false is rest =
        let some : 0 < n = grind (arith, is) in
        let r = rest (omega (arith, l, some)) in
        let whole : n % 10 + 10 * number_in (digits_within most (n / 10)) ≡ n = omega (arith, r.number) in
        record {
          number = whole;
          digits = (omega arith, r.digits);
          ends = ends_before (n % 10) (digits_within most (n / 10)) r.ends (omega (arith, whole, some));
        }

pub right : (n : ℕ) → Right n (digits_of n)
unfolding digits_of
right n = within_right n n (omega arith)
