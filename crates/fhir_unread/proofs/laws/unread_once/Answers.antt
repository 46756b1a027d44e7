use Rattle.fhir_findings.specs.Carrying.{all_carriers}
use Rattle.fhir_unread.proofs.Once.{once}
use Rattle.fhir_unread.proofs.laws.unread_once.Goals as goal

pub returns : goal.returns
returns c = λ selection s survey t. once (all_carriers selection s survey) t
