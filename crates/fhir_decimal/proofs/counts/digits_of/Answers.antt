use Rattle.std.proofs.Common.{◌≡◌, ◌+◌, ◌-◌, ◌%◌, arith, ◌∙◌}
use Rattle.std.proofs.lemmas.List.{length-set}
use Rattle.fhir_decimal.proofs.Counting.{digit_step, tenth_below}
use Rattle.fhir_decimal.proofs.counts.digits_of.Goals as goal

pub loop-place-preserved : goal.loop-place-preserved
loop-place-preserved c =
    let i = c.loop-place.place - 1 in
    let next : c.loop-place.place ≡ i + 1 = omega arith in
    record {
      within = omega arith;
      long = length-set c.loop-place.digits i (48 + c.loop-place.rest % 10) ∙ c.loop-place.invariant.long;
      left = tenth_below c.loop-place.rest i (rw next at c.loop-place.invariant.left);
      so_far = digit_step c.loop-place.digits i c.loop-place.rest c.args.number c.loop-place.invariant.long (omega arith) (rw next at c.loop-place.invariant.so_far);
    }
