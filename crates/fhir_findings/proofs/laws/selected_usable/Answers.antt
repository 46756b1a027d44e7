use Rattle.fhir_findings.proofs.Usable.{selected_usable, none_selected}
use Rattle.fhir_findings.proofs.laws.selected_usable.Goals as goal

pub returns-clause-usable : goal.returns-clause-usable
returns-clause-usable c = selected_usable

pub returns-clause-listed : goal.returns-clause-listed
returns-clause-listed c = none_selected
