use Rattle.std.proofs.Common.{string_bytes, rules}
use Rattle.fhir_audit_lines.proofs.texts.unusable_text.Goals as goal

pub returns : goal.returns
returns c = (string_bytes c.in_ok-why.why, search rules)
