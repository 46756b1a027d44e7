use Rattle.std.proofs.Common.{map, string_bytes, arith}
use Rattle.fhir_audit.proofs.Climbing.{own_more, least_more, closed_by}
use Rattle.fhir_audit.proofs.above.take_all.Goals as goal

pub loop-place-preserved : goal.loop-place-preserved
loop-place-preserved c =
    let prefixes = map string_bytes c.args.prefixes.now in
    let p = c.args.«package».now in
    let held = c.loop-place.invariant in
    record {
      long = omega (arith, c.take.auto.marks);
      own = own_more prefixes p c.loop-place.place c.loop-place.marks c.take.new.marks c.take.ensures held.own;
      least = least_more prefixes p c.loop-place.place c.loop-place.marks c.take.new.marks c.take.ensures held.least;
      rests = c.take.ensures.rests held.rests;
    }

pub returns-clause-closed : goal.returns-clause-closed
returns-clause-closed c =
    closed_by (map string_bytes c.args.prefixes.now) c.args.«package».now c.loop-place.marks c.loop-place.place (omega arith) c.loop-place.invariant.own
    c.loop-place.invariant.rests
