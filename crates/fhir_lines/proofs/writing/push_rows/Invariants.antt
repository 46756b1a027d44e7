use Rattle.std.proofs.Common.{◌≡◌, ◌++◌, drop, string_bytes}
use Rattle.fhir_lines.specs.Lines.{rows, lines_seen}
use Rattle.fhir_lines.proofs.writing.push_rows.Given as goal

abbrev pub invariant-loop-line : goal.invariant-loop-line
invariant-loop-line l =
    string_bytes l.into ++ rows l.format (lines_seen (drop l.line-index l.lines)) ≡ string_bytes l.fn.into ++ rows l.format (lines_seen l.lines)
