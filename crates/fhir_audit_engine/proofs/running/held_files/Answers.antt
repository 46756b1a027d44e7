use Rattle.fhir_answers.specs.Session.{schema_in}
use Rattle.fhir_audit_engine.proofs.Rechecked.{all_rechecked}
use Rattle.fhir_audit_engine.proofs.running.held_files.Goals as goal

pub returns : goal.returns
returns c =
    all_rechecked (schema_in c.args.session.now) c.args.session.now.survey.definitions c.args.files.now c.loop-file.file-index c.loop-file.all.items
    c.loop-file-test.false c.loop-file.invariant
