use Rattle.std.proofs.Common.{List, ◌++◌, drop}
use Rattle.fhir_answers.specs.Session.{schema_in}
use Rattle.fhir_audit_lines.specs.declared.held_lines.HeldFile.{HeldFile}
use Rattle.fhir_audit_engine.specs.Told.{AreRechecked}
use Rattle.fhir_audit_engine.proofs.running.held_files.Given as goal

abbrev pub invariant-loop-file : goal.invariant-loop-file
invariant-loop-file l =
    (rest : List HeldFile) → AreRechecked (schema_in l.session) l.session.survey.definitions (drop l.file-index l.files) rest
    → AreRechecked (schema_in l.session) l.session.survey.definitions l.files (l.all.items ++ rest)
