use Rattle.std.proofs.Common.{◌≡◌, ◌-◌, suc, length, ap, arith, ◌∙◌, subst, sym, Some}
use Rattle.std.specs.Prelude.{slice_get, option_copied}
use Rattle.fhir_number_keys.specs.Digits.{number_in, AreDigits, digits_of}
use Rattle.fhir_number_keys.proofs.Lowest.{shorter_number, shorter_digits, there, digits_are, ends_with, no_end}
use Rattle.fhir_number_keys.proofs.digits.drop_zeros.Goals as goal

pub loop-last-preserved : goal.loop-last-preserved
loop-last-preserved c =
    let ds = c.loop-last.digits.items in
    let n = c.loop-last.digits.len - 1 in
    let long : length ds ≡ c.loop-last.digits.len = ap length (sym c.deref.ensures.value) ∙ c.deref.ensures.len in
    let last : slice_get ds n ≡ Some c.in-Some.last.now =
    ap (λ k. slice_get ds (k - 1)) (sym long) ∙ ap (λ xs. slice_get xs (length xs - 1)) (sym c.deref.ensures.value) ∙ sym c.in-Some.ensures.value in
    let some : length ds ≡ suc n = omega (arith, long, there ds n _ last) in
    record {
      digits = subst AreDigits (sym c.pop.ensures.rest) (shorter_digits ds n c.loop-last.invariant.digits);
      number = ap number_in c.pop.ensures.rest ∙ shorter_number ds n c.in-Some.last.now some last c.if-last-ne0.false ∙ c.loop-last.invariant.number;
    }

pub returns-then-last-ne0 : goal.returns-then-last-ne0
returns-then-last-ne0 c =
    let ds = c.loop-last.digits.items in
    let n = c.loop-last.digits.len - 1 in
    let long : length ds ≡ c.loop-last.digits.len = ap length (sym c.deref.ensures.value) ∙ c.deref.ensures.len in
    let last : slice_get ds n ≡ Some c.in-Some.last.now =
    ap (λ k. slice_get ds (k - 1)) (sym long) ∙ ap (λ xs. slice_get xs (length xs - 1)) (sym c.deref.ensures.value) ∙ sym c.in-Some.ensures.value in
    let some : length ds ≡ suc n = omega (arith, long, there ds n _ last) in
    digits_are ds c.loop-last.invariant.digits (ends_with ds n _ some last (omega (arith, c.if-last-ne0.true))) ∙ ap digits_of c.loop-last.invariant.number

pub returns : goal.returns
returns c =
    let ds = c.loop-last.digits.items in
    digits_are ds c.loop-last.invariant.digits
    (no_end ds (ap (λ xs. slice_get xs (length xs - 1)) (sym c.deref.ensures.value) ∙ sym c.last.ensures.value ∙ ap option_copied c.in_default.is)) ∙ ap digits_of c.loop-last.invariant.number
