use Rattle.fhir_audit_lines.proofs.texts.words_line.Goals as goal

pub returns : goal.returns
returns c = (c.as_str.result.now, c.in_ok-line.ensures)
