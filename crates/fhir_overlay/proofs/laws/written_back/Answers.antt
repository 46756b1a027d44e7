use Rattle.fhir_overlay.proofs.Written.{written_back}
use Rattle.fhir_overlay.proofs.laws.written_back.Goals as goal

pub returns : goal.returns
returns c = written_back
