use Rattle.std.proofs.Common.{◌≡◌, ◌++◌, map, drop}
use Rattle.fhir_lines.specs.Lines.{lines_seen}
use Rattle.fhir_report.specs.ContradictionLines.{contradiction_line}
use Rattle.fhir_report.proofs.contradiction_lines.push_lines.Given as goal

abbrev pub invariant-loop-found : goal.invariant-loop-found
invariant-loop-found l =
    lines_seen l.lines.items ++ map (contradiction_line l.schema l.file) (drop l.found-index l.all)
    ≡ lines_seen l.fn.lines.items ++ map (contradiction_line l.schema l.file) l.all
