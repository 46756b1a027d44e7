use Rattle.std.proofs.lemmas.Result.{IfOk-weaker}
use Rattle.fhir_answers.proofs.Sessions.{no_faults}
use Rattle.fhir_answers.proofs.session.Session.counter_given.Goals as goal

pub returns-in-Ok-clause-promised : goal.returns-in-Ok-clause-promised
returns-in-Ok-clause-promised c =
    IfOk-weaker c.counter_given.result _ _ (λ r promise zero. (no_faults c.args.self.now.survey c.in-Ok.ensures.found.0, promise zero))
    c.counter_given.ensures.promised
