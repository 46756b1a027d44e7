use Rattle.std.proofs.Common.{◌≡◌, drop}
use Rattle.std.specs.Prelude.{find}
use Rattle.fhir_package.specs.Surveying.{is_unreadable}
use Rattle.fhir_package.specs.SurveyView.{faults_seen}
use Rattle.fhir_package.proofs.survey.first_unreadable.Given as goal

abbrev pub invariant-loop-fault : goal.invariant-loop-fault
invariant-loop-fault l = find is_unreadable (faults_seen l.faults) ≡ find is_unreadable (faults_seen (drop l.fault-index l.faults))
