use Rattle.std.proofs.Common.{take, arith}
use Rattle.std.proofs.lemmas.List.{length-map, length-take-le}
use Rattle.fhir_findings.specs.Views.{carrier_seen, carriers_seen, all_told_seen}
use Rattle.fhir_findings.proofs.Telling.{room_left, next_told}
use Rattle.fhir_findings.proofs.once.told_once.Goals as goal

pub tell-requires-clause-room : goal.tell-requires-clause-room
tell-requires-clause-room c = λ place d h.
    let cs = take c.loop-carrier.carrier-index c.args.carriers.now in
    let room = room_left c.loop-carrier.told.items (carriers_seen cs) place d c.loop-carrier.invariant.same h in
    let seen = length-map cs carrier_seen in
    let long = length-take-le c.loop-carrier.carrier-index c.args.carriers.now c.loop-carrier.auto.carrier-index-end in
    omega (arith, room, seen, long, c.loop-carrier-test.true)

pub loop-carrier-preserved : goal.loop-carrier-preserved
loop-carrier-preserved c = record {
  found = c.in_ok-tell.ensures.found;
  same =
      next_told c.args.carriers.now c.loop-carrier.carrier-index c.carrier-item.result (all_told_seen c.loop-carrier.told.items)
      (all_told_seen c.tell.new.told.items) c.loop-carrier-test.true c.carrier-item.is c.loop-carrier.invariant.same c.in_ok-tell.ensures.told;
}
