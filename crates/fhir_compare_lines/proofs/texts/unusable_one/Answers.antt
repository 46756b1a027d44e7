use Rattle.fhir_compare_lines.proofs.texts.unusable_one.Goals as goal

pub returns : goal.returns
returns c = (c.as_str.result.now, rw (c.as_str-2.ensures.value, c.in_ok-text.ensures) at c.in_ok-lines.ensures)
