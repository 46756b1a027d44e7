use Rattle.fhir_audit.proofs.Narrowing.{told_once}
use Rattle.fhir_audit.proofs.laws.profiles_told_once.Goals as goal

pub returns : goal.returns
returns c = told_once
