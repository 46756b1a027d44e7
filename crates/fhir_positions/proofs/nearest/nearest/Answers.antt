use Rattle.fhir_positions.proofs.Among.{first_there}
use Rattle.fhir_positions.proofs.nearest.nearest.Goals as goal

pub returns-in-None : goal.returns-in-None
returns-in-None c = first_there c.args.above c.args.values.now
