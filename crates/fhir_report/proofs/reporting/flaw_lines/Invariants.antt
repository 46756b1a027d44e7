use Rattle.std.proofs.Common.{All}
use Rattle.fhir_lines.specs.Lines.{lines_seen}
use Rattle.fhir_report.specs.Report.{IsOfCertificate}
use Rattle.fhir_report.proofs.reporting.flaw_lines.Given as goal

abbrev pub invariant-loop-flaw : goal.invariant-loop-flaw
invariant-loop-flaw l = All (IsOfCertificate l.certificate.name.now) (lines_seen l.lines.items)
