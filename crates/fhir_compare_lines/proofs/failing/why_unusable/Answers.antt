use Rattle.fhir_compare_lines.proofs.failing.why_unusable.Goals as goal

pub returns : goal.returns
returns c = (c.number_at-number.result.now, c.in_ok-text.ensures)
