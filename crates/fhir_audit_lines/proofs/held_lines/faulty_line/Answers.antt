use Rattle.std.proofs.Common.{append_assoc}
use Rattle.fhir_audit_lines.proofs.held_lines.faulty_line.Goals as goal

pub returns : goal.returns
returns c = simp append_assoc (rw c.number-number.ensures at c.format.ensures.ok)
