use Rattle.std.proofs.Common.{[], map, take}
use Rattle.fhir_findings.specs.Finding.{faults_told, all_told}
use Rattle.fhir_report.specs.Report.{fault_head, unusable_head}
use Rattle.fhir_report.specs.Growing.{Grows}
use Rattle.fhir_report.proofs.reporting.lines_of.Given as goal

abbrev pub invariant-loop-finding : goal.invariant-loop-finding
invariant-loop-finding l =
    Grows [] l.lines.items (map fault_head (faults_told (take l.finding-index l.found))) (map (unusable_head l.lacking) (all_told (take l.finding-index l.found)))
