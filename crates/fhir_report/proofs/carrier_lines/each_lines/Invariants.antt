use Rattle.std.proofs.Common.{◌≡◌, map, take}
use Rattle.fhir_findings.specs.Views.{carriers_seen}
use Rattle.fhir_lines.specs.Lines.{lines_seen}
use Rattle.fhir_report.specs.CarrierLines.{each_line}
use Rattle.fhir_report.proofs.carrier_lines.each_lines.Given as goal

abbrev pub invariant-loop-carrier : goal.invariant-loop-carrier
invariant-loop-carrier l = lines_seen l.lines.items ≡ map each_line (carriers_seen (take l.carrier-index l.carriers))
