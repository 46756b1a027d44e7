use Rattle.std.proofs.Common.{false, arith}
use Rattle.fhir_alike.specs.ValueSets.{differs_itself, set_marks}
use Rattle.fhir_alike.proofs.Rests.{map_turn}
use Rattle.fhir_alike.proofs.value_sets.marks_of.Goals as goal

pub loop-place-preserved : goal.loop-place-preserved
loop-place-preserved c =
    map_turn (differs_itself c.args.both.old.now c.args.both.new.now) false c.args.both.old.now.value_sets c.loop-place.place
    c.loop-place.marks.items c.push.new.self.items (set_marks c.args.both.old.now c.args.both.new.now) c.differs_at.result
    (omega arith) c.loop-place.invariant c.differs_at.ensures c.in_ok-push.ensures.items
