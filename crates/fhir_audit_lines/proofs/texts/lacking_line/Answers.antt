use Rattle.std.proofs.Common.{append_assoc}
use Rattle.fhir_audit_lines.proofs.texts.lacking_line.Goals as goal

pub returns : goal.returns
returns c = simp append_assoc (rw (c.as_str-part.ensures.value, c.in_ok-part.ensures) at c.format.ensures.ok)
