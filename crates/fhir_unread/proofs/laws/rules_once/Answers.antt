use Rattle.fhir_findings.specs.Carrying.{all_carriers}
use Rattle.fhir_unread.proofs.Vouches.{given_once}
use Rattle.fhir_unread.proofs.laws.rules_once.Goals as goal

pub returns : goal.returns
returns c = λ selection s survey u. given_once (all_carriers selection s survey) u
