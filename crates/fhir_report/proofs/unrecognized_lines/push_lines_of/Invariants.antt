use Rattle.std.proofs.Common.{◌≡◌, ◌++◌, drop}
use Rattle.fhir_package.specs.Definitions.{of_kind}
use Rattle.fhir_lines.specs.Lines.{lines_seen}
use Rattle.fhir_report.specs.UnrecognizedLines.{lines_from, lines_of_kind}
use Rattle.fhir_report.proofs.unrecognized_lines.push_lines_of.Given as goal

abbrev pub invariant-loop-place : goal.invariant-loop-place
invariant-loop-place l =
    lines_seen l.lines.items ++ lines_from l.selection l.survey l.kind l.place (drop l.place (of_kind l.kind l.survey.definitions))
    ≡ lines_seen l.fn.lines.items ++ lines_of_kind l.selection l.survey l.kind
