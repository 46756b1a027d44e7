use Rattle.fhir_compare_lines.proofs.trees.last_row.Goals as goal

pub returns : goal.returns
returns c = rw c.in_ok-members.ensures at c.object_text.ensures
