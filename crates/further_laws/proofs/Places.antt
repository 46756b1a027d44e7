-- The value at a place that is a count.
use Rattle.std.proofs.Common.{◌≡◌, ℕ, zero, suc, ◌+◌, true, false, List, [], ◌∷◌, refl, sym, ap, ◌∙◌, arith}
use Rattle.std.specs.declared.cmp.Ordering.TheVariants.{Equal, Greater}
use Rattle.std.specs.Ordering.{is_eq}
use Rattle.std.specs.Cmp.{nat_cmp_is}
use Rattle.std.specs.List.{slice_get}
use Rattle.std.specs.Option.{option_to_list}
use Rattle.fhir_decimal.specs.Value.{is_same_value}
use Rattle.fhir_decimal.specs.Whole.{count}
use Rattle.fhir_decimal.proofs.Counting.{counts_order}
use Rattle.fhir_fp_values.specs.Values.{Plain}
use Rattle.fhir_fp_eval.specs.Meaning.{at_from}

here : (n : ℕ) → is_same_value (count (n + 0)) (count n) ≡ true
here n = ap is_eq (counts_order (n + 0) n ∙ sym (nat_cmp_is (n + 0) n Equal (omega arith)))

later : (n j : ℕ) → is_same_value (count (n + suc j)) (count n) ≡ false
later n j = ap is_eq (counts_order (n + suc j) n ∙ sym (nat_cmp_is (n + suc j) n Greater (omega arith)))

pub at_place : (xs : List Plain) (n j : ℕ) → at_from n (count (n + j)) xs ≡ option_to_list (slice_get xs j)
unfolding at_from
at_place [] n j = refl
at_place (x ∷ xs) n zero = rw (here n) refl
at_place (x ∷ xs) n (suc j) =
    let next : n + suc j ≡ suc n + j = omega arith in
    rw (later n j) (ap (λ i. at_from (suc n) (count i) xs) next ∙ at_place xs (suc n) j)

pub at_number : (xs : List Plain) (i : ℕ) → at_from 0 (count i) xs ≡ option_to_list (slice_get xs i)
at_number xs i = let e : i ≡ 0 + i = omega arith in ap (λ k. at_from 0 (count k) xs) e ∙ at_place xs 0 i
