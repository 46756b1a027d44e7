use Rattle.fhir_findings.proofs.Usable.{all_usable, none_listed}
use Rattle.fhir_findings.proofs.laws.all_usable.Goals as goal

pub returns-clause-usable : goal.returns-clause-usable
returns-clause-usable c survey none = all_usable survey none

pub returns-clause-listed : goal.returns-clause-listed
returns-clause-listed c survey usable = none_listed survey usable
