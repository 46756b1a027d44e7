use Rattle.std.proofs.Common.{◌≡◌, ◌++◌, string_bytes, rules}
use Rattle.fhir_findings.specs.Counting.{counts_text}
use Rattle.fhir_lines.specs.Lines.{text_line, row, rows, lines_seen}
use Rattle.fhir_report.proofs.Told.{four_rows}
use Rattle.fhir_report.proofs.reporting.text_of.Goals as goal

pub returns : goal.returns
returns c =
    let parts = c.args.parts in
    let first : string_bytes c.push_rows.new.into ≡ rows c.args.format (lines_seen parts.found.now) = search rules in
    let fourth : string_bytes c.push_row.new.into ≡ string_bytes c.push_rows-3.new.into ++ row c.args.format (text_line (counts_text c.args.counts)) =
    search rules in
    four_rows c.args.format (lines_seen parts.found.now) (lines_seen parts.noted.now) (lines_seen parts.judged.now) (text_line (counts_text c.args.counts))
    (string_bytes c.push_rows.new.into) (string_bytes c.push_rows-2.new.into) (string_bytes c.push_rows-3.new.into) (string_bytes c.push_row.new.into)
    first c.in_ok-push_rows-2.ensures c.in_ok-push_rows-3.ensures fourth
