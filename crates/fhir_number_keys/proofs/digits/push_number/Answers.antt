use Rattle.std.proofs.Common.{◌≡◌, ◌^◌, ◌%◌, suc, length, ap, arith, ◌∙◌, subst, sym}
use Rattle.std.proofs.Math.Nat.{pow-succ'}
use Rattle.std.proofs.lemmas.List.{length-append}
use Rattle.fhir_number_keys.specs.Digits.{number_in, AreDigits}
use Rattle.fhir_number_keys.proofs.Sums.{number_with, digits_with, next_left}
use Rattle.fhir_number_keys.proofs.digits.push_number.Goals as goal

pub loop-left-preserved : goal.loop-left-preserved
loop-left-preserved c =
    let old = c.loop-left.digits.items in
    let new = c.push.new.self.items in
    let left = c.loop-left.left in
    let more = c.in_ok-push.ensures.items in
    let long : length new ≡ suc (length old) = omega (arith, ap length more ∙ length-append old _) in
    record {
      digits = λ h. subst AreDigits (sym more) (digits_with old (left % 10) (c.loop-left.invariant.digits h) (omega arith));
      number =
          next_left (number_in new) (number_in old) left (10 ^ length old) (10 ^ length new) _ (ap number_in more ∙ number_with old (left % 10))
          (ap (λ k. 10 ^ k) long ∙ pow-succ' 10 (length old)) c.loop-left.invariant.number;
    }
