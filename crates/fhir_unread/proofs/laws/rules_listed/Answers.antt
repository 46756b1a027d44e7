use Rattle.fhir_findings.specs.Carrying.{all_carriers}
use Rattle.fhir_unread.proofs.Stands.{listed}
use Rattle.fhir_unread.proofs.laws.rules_listed.Goals as goal

pub returns : goal.returns
returns c = λ selection s survey carrier u there is. listed survey.definitions (all_carriers selection s survey) carrier u there is
