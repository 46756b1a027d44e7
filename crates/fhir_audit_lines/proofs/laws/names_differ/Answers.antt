use Rattle.fhir_audit_lines.proofs.Names.{distinct}
use Rattle.fhir_audit_lines.proofs.laws.names_differ.Goals as goal

pub returns : goal.returns
returns c = distinct
