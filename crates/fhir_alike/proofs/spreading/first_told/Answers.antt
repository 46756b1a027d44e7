use Rattle.std.proofs.Common.{arith}
use Rattle.fhir_alike.proofs.Told.{first_turn}
use Rattle.fhir_alike.proofs.spreading.first_told.Goals as goal

pub loop-place-preserved : goal.loop-place-preserved
loop-place-preserved c =
    first_turn c.args.marks.now c.loop-place.place _ (c.loop-place.told.marks.items, c.loop-place.told.queue.items)
    (c.tell_if.new.told.marks.items, c.tell_if.new.told.queue.items) _
    (omega arith) c.loop-place.invariant c.in_ok-tell_if.ensures
