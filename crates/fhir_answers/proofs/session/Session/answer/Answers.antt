use Rattle.std.proofs.Common.{◌≡◌, [], IfOk, subst}
use Rattle.fhir_answers.specs.Answering.{IsReply, answer_of}
use Rattle.fhir_answers.specs.Promising.{PromisedOf}
use Rattle.fhir_answers.specs.Replying.{reply_seen, status_of}
use Rattle.fhir_answers.specs.Views.{bytes_seen, files_seen, file_at}
use Rattle.fhir_words.specs.Views.{request_seen}
use Rattle.fhir_answers.proofs.session.Session.answer.Goals as goal

pub returns-clause-told : goal.returns-clause-told
returns-clause-told c =
    let q = request_seen c.args.request.now in
    let s = c.args.self.now in
    let by_first =
    subst (λ x. IfOk c.answer_of.result (λ r. IsReply (answer_of q s x (bytes_seen c.file_at-second.result)) (reply_seen r))) c.file_at-first.ensures
    c.answer_of.ensures.told in
    subst (λ y. IfOk c.answer_of.result (λ r. IsReply (answer_of q s (file_at (files_seen c.args.files.now) 0) y) (reply_seen r))) c.file_at-second.ensures
    by_first

pub returns-clause-promised : goal.returns-clause-promised
returns-clause-promised c =
    let q = request_seen c.args.request.now in
    let s = c.args.self.now in
    let by_first =
    subst
    (λ x. IfOk c.answer_of.result
    (λ r. status_of (reply_seen r) ≡ 0 → (s.survey.faults ≡ []) × PromisedOf q s.survey.definitions x (bytes_seen c.file_at-second.result)))
    c.file_at-first.ensures c.answer_of.ensures.promised in
    subst
    (λ y. IfOk c.answer_of.result
    (λ r. status_of (reply_seen r) ≡ 0 → (s.survey.faults ≡ [])
    × PromisedOf q s.survey.definitions (file_at (files_seen c.args.files.now) 0) y))
    c.file_at-second.ensures by_first
