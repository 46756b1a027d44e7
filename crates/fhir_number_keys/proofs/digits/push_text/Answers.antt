use Rattle.std.proofs.Common.{◌≡◌, ◌+◌, ◌-◌, ◌*◌, ◌^◌, ◌%◌, suc, length, take, ap, arith, ◌∙◌, subst, sym}
use Rattle.std.proofs.Math.Nat.{pow-succ'}
use Rattle.std.proofs.lemmas.List.{length-append, length-take-le}
use Rattle.fhir_decimal.specs.Value.{number_of}
use Rattle.fhir_number_keys.specs.Digits.{number_in, AreDigits}
use Rattle.fhir_number_keys.proofs.Sums.{number_with, digits_with, last_split, carried}
use Rattle.fhir_number_keys.proofs.digits.push_text.Goals as goal

pub loop-rest-preserved : goal.loop-rest-preserved
loop-rest-preserved c =
    let old = c.loop-rest.digits.items in
    let new = c.push.new.self.items in
    let left = c.loop-rest.left in
    let rest = c.loop-rest.rest.now in
    let n = length rest - 1 in
    let digit = c.digit_value.result in
    let more = c.in_ok-push.ensures.items in
    let some : length rest ≡ suc n = omega (arith, c.in-len1-up.len_at_least) in
    let long : length new ≡ suc (length old) = omega (arith, ap length more ∙ length-append old _) in
    let last : number_of rest ≡ number_of (take n rest) * 10 + digit = last_split rest n some ∙ ap (λ d. number_of (take n rest) * 10 + d) (sym c.digit_value.ensures.value) in
    record {
      bound = omega (arith, c.loop-rest.invariant.bound, c.digit_value.ensures.small);
      len = omega (arith, long, some, length-take-le n rest (omega arith), c.loop-rest.invariant.len);
      digits = λ h. subst AreDigits (sym more) (digits_with old ((left + digit) % 10) (c.loop-rest.invariant.digits h) (omega arith));
      number =
          carried (number_in new) (number_in old) (number_of (take n rest)) (number_of rest) digit left (10 ^ length old) (10 ^ length new) _
          (ap number_in more ∙ number_with old ((left + digit) % 10)) (ap (λ k. 10 ^ k) long ∙ pow-succ' 10 (length old)) last c.loop-rest.invariant.number;
    }
