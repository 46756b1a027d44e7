use Rattle.std.proofs.Common.{◌≡◌, ℕ, ◌+◌, ◌-◌, ◌<◌, ◌*◌, ◌++◌, length, arith, ap, sym, ◌∙◌}
use Rattle.std.specs.Prelude.{slice_index}
use Rattle.std.proofs.lemmas.List.{length-append}
use Rattle.fhir_decimal.specs.Value.{number_of}
use Rattle.fhir_decimal.specs.Rows.{digit_in}
use Rattle.fhir_decimal.proofs.Digits.{prefix, prefix_number, digit_small}
use Rattle.fhir_decimal.proofs.Whole.{zero_step, tail_done}
use Rattle.fhir_decimal.proofs.rows.zeros_behind.Goals as goal

pub loop-zeros-init : goal.loop-zeros-init
loop-zeros-init c =
    let ds = c.args.front.now ++ c.args.back.now in
    let places : length c.args.front.now + length c.args.back.now - 0 ≡ length ds = omega (arith, length-append c.args.front.now c.args.back.now) in
    record {
      within = omega arith;
      number =
          sym (prefix_number ds)
          ∙ ap (prefix (digit_in ds)) (sym places)
          ∙ one_time (prefix (digit_in ds) (length c.args.front.now + length c.args.back.now - 0));
    }
  where
    one_time : (n : ℕ) → n ≡ n * 1
    one_time n = omega arith

pub loop-zeros-preserved : goal.loop-zeros-preserved
loop-zeros-preserved c =
    let ds = c.args.front.now ++ c.args.back.now in
    let places = length c.args.front.now + length c.args.back.now in
    record {
      within = omega arith;
      number =
          zero_step (digit_in ds) places c.loop-zeros.zeros (number_of ds) c.loop-zeros-test.true (sym c.digit_in.ensures.value ∙ c.if-digit_in-eq0.true)
          c.loop-zeros.invariant.number;
    }

pub returns-else-digit_in-eq0-clause-number : goal.returns-else-digit_in-eq0-clause-number
returns-else-digit_in-eq0-clause-number c =
    let ds = c.args.front.now ++ c.args.back.now in
    let places = length c.args.front.now + length c.args.back.now in
    let whole : places ≡ length ds = sym (length-append c.args.front.now c.args.back.now) in
    let other : 0 < digit_in ds (places - 1 - c.loop-zeros.zeros) = omega (arith, c.digit_in.ensures.value, c.if-digit_in-eq0.false) in
    tail_done ds places c.loop-zeros.zeros whole c.loop-zeros.invariant.within c.loop-zeros.invariant.number (λ _. other) (λ k. digit_small (slice_index ds k))
