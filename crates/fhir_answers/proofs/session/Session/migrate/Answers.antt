use Rattle.std.proofs.Common.{subst}
use Rattle.std.proofs.lemmas.Result.{IfOk-weaker}
use Rattle.fhir_answers.specs.Promising.{Migrated}
use Rattle.fhir_answers.specs.Views.{bytes_seen}
use Rattle.fhir_answers.proofs.Sessions.{no_faults}
use Rattle.fhir_answers.proofs.session.Session.migrate.Goals as goal

pub returns-in-Ok-clause-promised : goal.returns-in-Ok-clause-promised
returns-in-Ok-clause-promised c =
    let found = c.in-Ok.ensures.found in
    IfOk-weaker c.migrate_file.result _ _ (λ r promise zero. (no_faults c.args.self.now.survey found.0, subst (λ s. Migrated s (bytes_seen c.args.file)) found.1 (promise zero)))
    c.migrate_file.ensures.promised
