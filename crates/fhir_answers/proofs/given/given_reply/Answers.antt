use Rattle.std.proofs.Common.{ap}
use Rattle.std.proofs.lemmas.Result.{IfOk-weaker}
use Rattle.fhir_answers.specs.Views.{bytes_seen}
use Rattle.fhir_answers.proofs.given.given_reply.Goals as goal

pub returns-in-Some-clause-promised : goal.returns-in-Some-clause-promised
returns-in-Some-clause-promised c =
    IfOk-weaker c.texts_reply.result _ _ (λ r promise zero. (c.in-Some.lines.now, ap bytes_seen c.in-Some.is, promise zero)) c.texts_reply.ensures.promised
