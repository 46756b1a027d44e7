use Rattle.std.proofs.Common.{arith}
use Rattle.std.specs.List.{count_by}
use Rattle.fhir_beside.specs.Types.{is_new_type}
use Rattle.fhir_beside.proofs.Counts.{count_turn, count_step, if_below}
use Rattle.fhir_beside.proofs.types.count_new.Goals as goal

pub loop-place-preserved : goal.loop-place-preserved
loop-place-preserved c = record {
  counted = count_turn (λ k. is_new_type c.args.old.now) (λ k. count_by (is_new_type c.args.old.now))
      (λ k x xs. count_step (is_new_type c.args.old.now) x xs) c.args.new.now.structure_definitions c.loop-place.place c.loop-place.count
      c.one_more_if-count.result (count_by (is_new_type c.args.old.now) c.args.new.now.structure_definitions) c.is_new_at.result
      (omega arith) c.is_new_at.ensures c.one_more_if-count.ensures c.loop-place.invariant.counted;
  fits = if_below c.loop-place.count c.one_more_if-count.result c.loop-place.place c.is_new_at.result c.one_more_if-count.ensures c.loop-place.invariant.fits;
}
