use Rattle.fhir_audit.proofs.Narrowing.{all_narrow}
use Rattle.fhir_audit.proofs.laws.narrowing_profiles.Goals as goal

pub returns : goal.returns
returns c = all_narrow
