use Rattle.std.proofs.Common.{◌≡◌, ◌++◌, map, drop}
use Rattle.fhir_lines.specs.Lines.{lines_seen}
use Rattle.fhir_report.specs.UnrecognizedLines.{unrecognized_line}
use Rattle.fhir_unrecognized.specs.Views.{members_seen}
use Rattle.fhir_report.proofs.unrecognized_lines.push_lines.Given as goal

abbrev pub invariant-loop-member : goal.invariant-loop-member
invariant-loop-member l =
    lines_seen l.lines.items ++ map (unrecognized_line l.file l.url) (members_seen (drop l.member-index l.members))
    ≡ lines_seen l.fn.lines.items ++ map (unrecognized_line l.file l.url) (members_seen l.members)
