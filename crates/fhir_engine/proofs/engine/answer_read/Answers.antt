use Rattle.std.proofs.lemmas.Result.{IfOk-weaker}
use Rattle.fhir_answers.specs.Views.{files_seen}
use Rattle.fhir_words.specs.Views.{request_seen}
use Rattle.fhir_engine.proofs.Promises.{of_read}
use Rattle.fhir_engine.proofs.engine.answer_read.Goals as goal

pub returns-clause-told : goal.returns-clause-told
returns-clause-told g c =
    IfOk-weaker c.answer.result _ _ (λ r told. (c.in_ok-session.session, c.in_ok-session.ensures, told)) c.answer.ensures.told

pub returns-clause-promised : goal.returns-clause-promised
returns-clause-promised g c =
    IfOk-weaker c.answer.result _ _
    (λ r promise zero.
    of_read c.surveys.ensures.packed (request_seen c.args.request.now) c.args.read.now c.in_ok-session.session (files_seen c.args.files.now) c.in_ok-session.ensures (promise zero))
    c.answer.ensures.promised
