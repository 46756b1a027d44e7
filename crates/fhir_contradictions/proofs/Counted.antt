-- Tests of numbers that are counted.
use Rattle.std.proofs.Common.{◌≡◌, ◌+◌, ◌<◌, ℕ, zero, suc, Bool, true, false, ◌||◌, refl, ap, sym, ◌∙◌, add-one, add-zero, zero-add, arith}
use Rattle.std.specs.List.{list_any, range_with_len}
use Rattle.std.proofs.lemmas.Bool.{or_left, or_right, true≢false}

-- where neither of two holds
neither : (a b : Bool) → a ≡ false → b ≡ false → (a || b) ≡ false
neither false b not_a not_b = not_b
neither true b not_a not_b = not_a

-- what holds of none of so many, and not of the next, holds of none of one more
none_more : (f : ℕ → Bool) (start n : ℕ) → list_any f (range_with_len start n) ≡ false → f (start + n) ≡ false → list_any f (range_with_len start (suc n)) ≡ false
none_more f start zero none last = neither (f start) false (sym (ap f (add-zero start)) ∙ last) none
none_more f start (suc n) none last =
    let parts = both_false (f start) (list_any f (range_with_len (start + 1) n)) none in
    let next : start + 1 + n ≡ start + suc n = omega arith in
    neither (f start) (list_any f (range_with_len (start + 1) (suc n))) parts.0 (none_more f (start + 1) n parts.1 (ap f next ∙ last))
  where
    both_false : (a b : Bool) → (a || b) ≡ false → (a ≡ false) × (b ≡ false)
    both_false false b h = (refl, h)
    both_false true b h = absurd (true≢false h)

pub none_counted_more : (f : ℕ → Bool) (n : ℕ) → list_any f (range_with_len 0 n) ≡ false → f n ≡ false → list_any f (range_with_len 0 (n + 1)) ≡ false
none_counted_more f n none last = ap (λ (k : ℕ). list_any f (range_with_len 0 k)) (add-one n) ∙ none_more f 0 n none (ap f (zero-add n) ∙ last)

-- what holds of one of them holds of some
some_from : (f : ℕ → Bool) (start n i : ℕ) → i < n → f (start + i) ≡ true → list_any f (range_with_len start n) ≡ true
some_from f start zero i within one = absurd (omega (arith, within))
some_from f start (suc n) zero within one = or_left (f start) (list_any f (range_with_len (start + 1) n)) (sym (ap f (add-zero start)) ∙ one)
some_from f start (suc n) (suc i) within one =
    let next : start + 1 + i ≡ start + suc i = omega arith in
    or_right (f start) (list_any f (range_with_len (start + 1) n)) (some_from f (start + 1) n i (omega (arith, within)) (ap f next ∙ one))

pub some_counted : (f : ℕ → Bool) (n i : ℕ) → i < n → f i ≡ true → list_any f (range_with_len 0 n) ≡ true
some_counted f n i within one = some_from f 0 n i within (ap f (zero-add i) ∙ one)
