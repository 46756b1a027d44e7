use Rattle.std.proofs.Common.{ap}
use Rattle.std.proofs.lemmas.Result.{IfOk-weaker}
use Rattle.fhir_answers.specs.Views.{bytes_seen}
use Rattle.fhir_answers.proofs.given.validate_given.Goals as goal

pub returns-in-Some-clause-promised : goal.returns-in-Some-clause-promised
returns-in-Some-clause-promised c =
    IfOk-weaker c.given_reply.result _ _ (λ r promise zero.
    let more = promise zero in (c.in-Some.bytes.now, ap bytes_seen c.in-Some.is, more.0, more.1, more.2))
    c.given_reply.ensures.promised
