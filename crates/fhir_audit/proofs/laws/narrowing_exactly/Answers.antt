use Rattle.fhir_audit.proofs.Narrowing.{exactly}
use Rattle.fhir_audit.proofs.laws.narrowing_exactly.Goals as goal

pub returns : goal.returns
returns c = exactly
