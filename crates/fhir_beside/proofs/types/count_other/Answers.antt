use Rattle.std.proofs.Common.{refl, arith}
use Rattle.fhir_alike.specs.ValueSets.{kept_by}
use Rattle.fhir_beside.specs.Made.{elements_of}
use Rattle.fhir_beside.specs.Types.{is_other_type, count_other}
use Rattle.fhir_beside.proofs.Counts.{count_turn, if_below}
use Rattle.fhir_beside.proofs.types.count_other.Goals as goal

pub loop-place-preserved : goal.loop-place-preserved
loop-place-preserved c = record {
  counted = count_turn (λ k e. is_other_type c.args.sides.new.now (kept_by c.args.sides.old.now c.args.sides.new.now c.args.sides.changes.now.changed.items) (elements_of k e) e)
      (count_other c.args.sides.new.now (kept_by c.args.sides.old.now c.args.sides.new.now c.args.sides.changes.now.changed.items)) (λ k x xs. refl) c.args.sides.old.now.structure_definitions c.loop-place.place c.loop-place.count
      c.one_more_if-count.result (count_other c.args.sides.new.now (kept_by c.args.sides.old.now c.args.sides.new.now c.args.sides.changes.now.changed.items) 0 c.args.sides.old.now.structure_definitions)
      c.in_ok-is_other.is_other (omega arith) c.in_ok-is_other.ensures c.one_more_if-count.ensures c.loop-place.invariant.counted;
  fits = if_below c.loop-place.count c.one_more_if-count.result c.loop-place.place c.in_ok-is_other.is_other c.one_more_if-count.ensures
      c.loop-place.invariant.fits;
}
