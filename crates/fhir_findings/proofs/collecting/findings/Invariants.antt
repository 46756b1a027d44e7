use Rattle.std.proofs.Common.{◌≡◌, ◌≤◌, ◌++◌, length, drop}
use Rattle.fhir_findings.specs.Finding.{selected_unusable, faults_told, all_told}
use Rattle.fhir_findings.proofs.Listed.{kept_from}
use Rattle.fhir_findings.proofs.collecting.findings.Given as goal

abbrev pub invariant-loop-place : goal.invariant-loop-place
invariant-loop-place l =
    (l.told ≤ length l.faults) × (faults_told l.found.items ++ drop l.told l.survey.faults ≡ l.survey.faults)
    × (all_told l.found.items
    ++ kept_from l.selection l.survey.definitions l.schema l.survey.sources.structure_definitions
    l.place-iterator.count l.place-iterator.iter
    ≡ selected_unusable l.selection l.schema l.survey)
