use Rattle.std.proofs.Common.{rules}
use Rattle.fhir_audit_lines.proofs.trees.tree_lines.Goals as goal

pub returns : goal.returns
returns c = (c.in_ok-members.ensures.0, search rules)
