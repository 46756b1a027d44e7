use Rattle.fhir_audit_engine.proofs.Ended.{ended_read}
use Rattle.fhir_audit_engine.proofs.directory.audit_directory.Goals as goal

pub returns-in-Err : goal.returns-in-Err
returns-in-Err g c = ended_read _ _ _ _ _ _ c.in-Err.refusal _ c.tell.ensures
