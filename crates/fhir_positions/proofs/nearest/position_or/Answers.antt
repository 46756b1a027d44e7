use Rattle.fhir_positions.proofs.Among.{at_place, first_there}
use Rattle.fhir_positions.proofs.nearest.position_or.Goals as goal

pub returns-in-Some : goal.returns-in-Some
returns-in-Some c = at_place c.args.other c.args.positions.now c.args.place c.in-Some.position.now c.in-Some.ensures.lookup.0 c.in-Some.ensures.lookup.1

pub returns-in-None : goal.returns-in-None
returns-in-None c = first_there c.args.other c.args.positions.now
