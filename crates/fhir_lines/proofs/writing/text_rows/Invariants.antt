use Rattle.std.proofs.Common.{◌≡◌, map, take, string_bytes}
use Rattle.fhir_lines.specs.Lines.{text_rows}
use Rattle.fhir_lines.proofs.writing.text_rows.Given as goal

abbrev pub invariant-loop-text : goal.invariant-loop-text
invariant-loop-text l = string_bytes l.rows ≡ text_rows (map string_bytes (take l.text-index l.texts))
