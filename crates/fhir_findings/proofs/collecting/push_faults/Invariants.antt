use Rattle.std.proofs.Common.{◌≡◌, ◌++◌, drop}
use Rattle.fhir_package.specs.SurveyView.{faults_seen}
use Rattle.fhir_findings.specs.Finding.{faults_told, all_told}
use Rattle.fhir_findings.proofs.collecting.push_faults.Given as goal

abbrev pub invariant-loop-fault : goal.invariant-loop-fault
invariant-loop-fault l =
    (faults_told l.into.items ++ faults_seen (drop l.fault-index l.faults) ≡ faults_told l.fn.into.items ++ faults_seen l.faults)
    × (all_told l.into.items ≡ all_told l.fn.into.items)
