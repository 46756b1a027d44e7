use Rattle.std.proofs.Common.{rules, ◌≡◌, None, subst}
use Rattle.std.proofs.lemmas.Result.{IfOk-weaker}
use Rattle.fhir_package.specs.Surveying.{refusal}
use Rattle.fhir_answers.specs.Promising.{Listed}
use Rattle.fhir_answers.proofs.Sessions.{no_faults}
use Rattle.fhir_answers.proofs.session.Session.snapshot.Goals as goal

pub returns-in-None-clause-promised : goal.returns-in-None-clause-promised
returns-in-None-clause-promised c =
    let none : refusal c.args.self.now.survey ≡ None = search rules in
    let same : c.«package».result.now ≡ c.args.self.now.survey.definitions = search rules in
    IfOk-weaker c.list_snapshot.result _ _
    (λ r promise zero. (no_faults c.args.self.now.survey none, subst (λ p. Listed p c.args.url.now) same (promise zero))) c.list_snapshot.ensures.promised
