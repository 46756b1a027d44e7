use Rattle.std.proofs.Common.{◌≡◌, ◌+◌, ◌-◌, ◌/◌, true, false, arith, sym, ◌∙◌}
use Rattle.std.specs.Ordering.{is_gt}
use Rattle.fhir_decimal.specs.Value.{value_order}
use Rattle.fhir_decimal.specs.Whole.{count}
use Rattle.fhir_decimal.specs.Numbers.{number_seen}
use Rattle.fhir_decimal.proofs.Counting.{up_to, from_there}
use Rattle.fhir_decimal.proofs.number.Number.counts_below.Goals as goal

pub loop-low-preserved-then-is_over : goal.loop-low-preserved-then-is_over
loop-low-preserved-then-is_over c =
    let v = number_seen c.args.self.now in
    let middle = c.loop-low.low + (c.loop-low.high - c.loop-low.low) / 2 in
    let over : is_gt (value_order v (count middle)) ≡ true = sym c.is_over.ensures ∙ c.if-is_over.true in
    record {
      between = omega arith;
      within = omega arith;
      above = up_to v middle over;
      others = c.loop-low.invariant.others;
    }

pub loop-low-preserved : goal.loop-low-preserved
loop-low-preserved c =
    let v = number_seen c.args.self.now in
    let middle = c.loop-low.low + (c.loop-low.high - c.loop-low.low) / 2 in
    let isnt : is_gt (value_order v (count middle)) ≡ false = sym c.is_over.ensures ∙ c.if-is_over.false in
    record {
      between = omega arith;
      within = omega arith;
      above = c.loop-low.invariant.above;
      others = λ n h k. from_there v middle isnt n h;
    }
