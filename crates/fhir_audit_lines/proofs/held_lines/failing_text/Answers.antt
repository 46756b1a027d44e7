use Rattle.std.proofs.Common.{rules}
use Rattle.fhir_audit_lines.proofs.held_lines.failing_text.Goals as goal

pub returns : goal.returns
returns c = (c.in_ok-words.ensures.0, search rules)
