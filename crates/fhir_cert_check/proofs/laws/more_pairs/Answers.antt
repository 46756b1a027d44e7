use Rattle.fhir_cert_check.proofs.Looking.{right_by_more}
use Rattle.fhir_cert_check.proofs.laws.more_pairs.Goals as goal

pub returns : goal.returns
returns c s some more p each right = right_by_more s some more p each right
