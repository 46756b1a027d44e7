use Rattle.std.proofs.Common.{append_assoc}
use Rattle.fhir_audit_lines.proofs.texts.verdict_front.Goals as goal

pub returns : goal.returns
returns c = simp append_assoc (rw (c.verdict_word-word.ensures, c.base_shown-base.ensures) at c.format.ensures.ok)
