use Rattle.std.proofs.Common.{string_bytes, subst}
use Rattle.std.proofs.lemmas.Result.{IfOk-weaker}
use Rattle.fhir_replies.specs.Standing.{ConformsAsGiven}
use Rattle.fhir_answers.specs.Replying.{reply_seen}
use Rattle.fhir_answers.specs.Answering.{IsJudgedReply}
use Rattle.fhir_answers.proofs.LinesRead.{by_lines}
use Rattle.fhir_answers.proofs.given.texts_reply.Goals as goal

pub returns-in-Ok-clause-told : goal.returns-in-Ok-clause-told
returns-in-Ok-clause-told c =
    let given = c.in-Ok.given in
    IfOk-weaker c.judged_reply.result _ _
    (λ r told.
    by_lines (λ s texts told. IsJudgedReply s texts told c.args.profile.now c.args.bytes.now) c.args.session.now c.schema.result.now given.vouching
    (string_bytes given.notes) c.args.name.now c.args.lines.now (reply_seen r) c.schema.ensures (λ not_utf8. let is = c.in-Ok.ensures.not_utf8.1 not_utf8 in absurd cc) c.in-Ok.ensures.given c.in-Ok.ensures.told told)
    c.judged_reply.ensures.told

pub returns-in-Ok-clause-promised : goal.returns-in-Ok-clause-promised
returns-in-Ok-clause-promised c =
    let texts = c.in-Ok.given.vouching in
    IfOk-weaker c.judged_reply.result _ _
    (λ r promise zero.
    (texts, c.in-Ok.ensures.given, subst (λ s. ConformsAsGiven s texts c.args.profile.now c.args.bytes.now) c.schema.ensures (promise zero)))
    c.judged_reply.ensures.promised
