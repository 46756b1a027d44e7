use Rattle.fhir_prims.proofs.InTime.{in_time}
use Rattle.fhir_prims.proofs.laws.moments_in_time.Goals as goal

pub returns : goal.returns
returns c = in_time
