use Rattle.fhir_codes.proofs.Listed.{resolved_at}
use Rattle.fhir_codes.proofs.laws.resolved.Goals as goal

pub returns : goal.returns
returns c = resolved_at
