use Rattle.std.proofs.Common.{arith}
use Rattle.fhir_matching.proofs.Sides.{outside_none}
use Rattle.fhir_matching.proofs.places.place_of.Goals as goal

pub loop-distance-init : goal.loop-distance-init
loop-distance-init c = (omega arith, outside_none c.args.name.now c.args.members.now c.min-near.result)
