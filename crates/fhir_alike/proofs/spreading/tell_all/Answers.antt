use Rattle.std.proofs.Common.{arith}
use Rattle.fhir_alike.proofs.Told.{all_turn}
use Rattle.fhir_alike.proofs.spreading.tell_all.Goals as goal

pub loop-place-preserved : goal.loop-place-preserved
loop-place-preserved c =
    all_turn c.args.places.now c.loop-place.place-index c.args.marked 0 (c.loop-place.told.marks.items, c.loop-place.told.queue.items)
    (c.tell.new.told.marks.items, c.tell.new.told.queue.items) _
    (omega arith) c.loop-place.invariant c.in_ok-tell.ensures
