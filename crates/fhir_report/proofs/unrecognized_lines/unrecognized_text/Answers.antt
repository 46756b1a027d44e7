use Rattle.std.proofs.Common.{append_assoc}
use Rattle.fhir_report.proofs.unrecognized_lines.unrecognized_text.Goals as goal

pub returns : goal.returns
returns c = simp append_assoc (rw c.text.ensures at c.format.ensures.ok)
