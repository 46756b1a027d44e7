-- The value at a place.
use Rattle.std.proofs.Common.{◌≡◌, ℕ, zero, suc, ◌+◌, ◌<◌, Bool, true, false, List, [], ◌∷◌, length, get_or, refl, sym, ap, ◌∙◌, arith}
use Rattle.fhir_decimal.specs.Value.{is_same_value}
use Rattle.fhir_decimal.specs.Value.{Value as Number}
use Rattle.fhir_decimal.specs.Whole.{count}
use Rattle.fhir_fp_values.specs.declared.value.Value.{Value}
use Rattle.fhir_fp_values.specs.Views.{plain_of, plains_of}
use Rattle.fhir_fp_eval.specs.Meaning.{at_from}

place_sum : (n i : ℕ) → n + suc i ≡ suc n + i
place_sum n i = omega arith

-- no place is the number
pub nowhere : (v : Number) (xs : List Value) (n : ℕ) → ((m : ℕ) → m < length xs → is_same_value v (count (n + m)) ≡ false) → at_from n v (plains_of xs) ≡ []
unfolding at_from
nowhere v [] n isnt = refl
nowhere v (x ∷ xs) n isnt =
    let e : n + 0 ≡ n = omega arith in
    let here : is_same_value v (count n) ≡ false = ap (λ (k : ℕ). is_same_value v (count k)) (sym e) ∙ isnt 0 (omega arith) in
    rw here (nowhere v xs (suc n) (λ m h. ap (λ (k : ℕ). is_same_value v (count k)) (sym (place_sum n m)) ∙ isnt (suc m) (omega arith)))

-- the first place that is the number
pub somewhere : (v : Number) (xs : List Value) (n i : ℕ) (x : Value) → i < length xs → x ≡ get_or xs i x → is_same_value v (count (n + i)) ≡ true
    → ((m : ℕ) → m < i → is_same_value v (count (n + m)) ≡ false) → at_from n v (plains_of xs) ≡ plain_of x ∷ []
unfolding at_from
somewhere v [] n i x h is same isnt = absurd (omega arith)
somewhere v (y ∷ ys) n zero x h is same isnt =
    let e : n + 0 ≡ n = omega arith in
    let here : is_same_value v (count n) ≡ true = ap (λ (k : ℕ). is_same_value v (count k)) (sym e) ∙ same in
    rw here (ap (λ (z : Value). plain_of z ∷ []) (sym is))
somewhere v (y ∷ ys) n (suc i) x h is same isnt =
    let e : n + 0 ≡ n = omega arith in
    let here : is_same_value v (count n) ≡ false = ap (λ (k : ℕ). is_same_value v (count k)) (sym e) ∙ isnt 0 (omega arith) in
    rw here (somewhere v ys (suc n) i x (omega arith) is (ap (λ (k : ℕ). is_same_value v (count k)) (sym (place_sum n i)) ∙ same)
    (λ m h. ap (λ (k : ℕ). is_same_value v (count k)) (sym (place_sum n m)) ∙ isnt (suc m) (omega arith)))

-- of all places

from_zero : (v : Number) (n : ℕ) (b : Bool) → is_same_value v (count n) ≡ b → is_same_value v (count (0 + n)) ≡ b
from_zero v n b h = let e : 0 + n ≡ n = omega arith in ap (λ (k : ℕ). is_same_value v (count k)) e ∙ h

pub no_place : (v : Number) (xs : List Value) → ((m : ℕ) → m < length xs → is_same_value v (count m) ≡ false) → at_from 0 v (plains_of xs) ≡ []
no_place v xs isnt = nowhere v xs 0 (λ m h. from_zero v m false (isnt m h))

pub one_place : (v : Number) (xs : List Value) (i : ℕ) (x : Value) → i < length xs → x ≡ get_or xs i x → is_same_value v (count i) ≡ true
    → ((m : ℕ) → m < i → is_same_value v (count m) ≡ false) → at_from 0 v (plains_of xs) ≡ plain_of x ∷ []
one_place v xs i x h is same isnt = somewhere v xs 0 i x h is (from_zero v i true same) (λ m k. from_zero v m false (isnt m k))
