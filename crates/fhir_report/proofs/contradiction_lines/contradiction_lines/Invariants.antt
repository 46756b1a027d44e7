use Rattle.std.proofs.Common.{◌≡◌, ◌++◌}
use Rattle.fhir_lines.specs.Lines.{lines_seen}
use Rattle.fhir_report.specs.ContradictionLines.{lines_from, contradiction_lines}
use Rattle.fhir_report.proofs.contradiction_lines.contradiction_lines.Given as goal

abbrev pub invariant-loop-place : goal.invariant-loop-place
invariant-loop-place l =
    lines_seen l.lines.items ++ lines_from l.selection l.schema l.survey l.place-iterator.count l.place-iterator.iter
    ≡ contradiction_lines l.selection l.schema l.survey
