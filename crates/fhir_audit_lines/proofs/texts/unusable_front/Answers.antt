use Rattle.std.proofs.Common.{append_assoc}
use Rattle.fhir_audit_lines.proofs.texts.unusable_front.Goals as goal

pub returns : goal.returns
returns c = simp append_assoc (rw (c.as_str-side.ensures.value, c.in_ok-side.ensures) at c.format.ensures.ok)
