use Rattle.fhir_codes.proofs.Settled.{concepts_step, least_read}
use Rattle.fhir_codes.proofs.laws.least_closed.Goals as goal

pub returns : goal.returns
returns c = record { read = concepts_step; least = least_read }
