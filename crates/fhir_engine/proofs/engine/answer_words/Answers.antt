use Rattle.std.proofs.Common.{◌≡◌, Result, Ok, Err, refl, sym, ap, subst, ◌∙◌}
use Rattle.fhir_words.specs.declared.request.Invocation.TheVariants.{Request as Asking}
use Rattle.fhir_words.specs.declared.request.WordsFault.{WordsFault}
use Rattle.fhir_engine.specs.Answering.{RepliesFor, words_text}
use Rattle.fhir_engine.specs.Ending.{told_status}
use Rattle.fhir_answers.specs.Replying.{told}
use Rattle.fhir_words.specs.Requests.{InvocationValue, request}
use Rattle.fhir_answers.specs.Status.{code_of}
use Rattle.fhir_engine.specs.Reading.{words_status}
use Rattle.fhir_answers.specs.Views.{files_seen}
use Rattle.fhir_words.specs.Views.{request_seen, asked_seen}
use Rattle.fhir_engine.proofs.Ends.{refused}
use Rattle.fhir_engine.proofs.engine.answer_words.Goals as goal

pub returns-in-Ok-Request-clause-told : goal.returns-in-Ok-Request-clause-told
returns-in-Ok-Request-clause-told g c not =
    let Asked : Result InvocationValue WordsFault = Ok (request (request_seen c.in-Ok-Request.request)) in
    let field : c.in-Ok-Request.field-0 ≡ Asking c.in-Ok-Request.request = rw c.in-Ok-Request.is at c.in-Ok-Request.field-0-is in
    let is : asked_seen c.args.asked.now ≡ Asked = ap asked_seen (c.in-Ok-Request.is ∙ ap Ok field) in
    let said = c.respond.ensures.told not in (
      said.0,
      subst (λ a. RepliesFor a c.args.read.now (files_seen c.args.files.now) said.0) (sym is) said.1,
      said.2,
      (λ so. ((said.3 so).0 ∙ ap told_status (sym is), (said.3 so).1)),
      said.4,
    )

pub returns-in-Err-clause-told : goal.returns-in-Err-clause-told
returns-in-Err-clause-told g c not =
    let fault = c.in-Err.fault in
    let is : asked_seen c.args.asked.now ≡ Err fault = ap asked_seen c.in-Err.is in
    let reply = told (code_of (words_status fault)) (words_text fault) in (
      reply,
      subst (λ a. RepliesFor a c.args.read.now (files_seen c.args.files.now) reply) (sym is) (refl {a = reply}),
      refused _ fault c.refuse.result c.refuse.ensures,
      (λ so. (c.refuse.ensures ∙ ap told_status (sym is), refl)),
      (λ so. absurd cc),
    )
