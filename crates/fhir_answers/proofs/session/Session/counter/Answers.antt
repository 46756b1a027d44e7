use Rattle.std.proofs.Common.{subst}
use Rattle.std.proofs.lemmas.Result.{IfOk-weaker}
use Rattle.fhir_answers.specs.Promising.{Derived}
use Rattle.fhir_answers.proofs.Sessions.{no_faults}
use Rattle.fhir_answers.proofs.session.Session.counter.Goals as goal

pub returns-in-Ok-clause-promised : goal.returns-in-Ok-clause-promised
returns-in-Ok-clause-promised c =
    let found = c.in-Ok.ensures.found in
    IfOk-weaker c.counter_between.result _ _
    (λ r promise zero. (no_faults c.args.self.now.survey found.0, subst (λ s. Derived s c.args.derived.now c.args.base.now) found.1 (promise zero)))
    c.counter_between.ensures.promised
