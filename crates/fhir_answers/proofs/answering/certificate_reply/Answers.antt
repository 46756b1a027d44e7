use Rattle.std.proofs.Common.{◌≡◌, refl, sym, ap, ◌∙◌, IsTrue}
use Rattle.fhir_schema.specs.Schemas.{SchemaValue}
use Rattle.fhir_cert_check.specs.declared.answer.Answer.{Answer}
use Rattle.fhir_cert_check.specs.declared.answer.Answer.TheVariants.{Yes, No}
use Rattle.fhir_cert_check.specs.Views.{is_yes, wrong_in}
use Rattle.fhir_answers.specs.Replying.{status_of, wrong_reply}
use Rattle.fhir_answers.proofs.answering.certificate_reply.Goals as goal

is_right : (s : SchemaValue) (a : Answer) → status_of (wrong_reply s (wrong_in a)) ≡ 0 → IsTrue (is_yes a)
is_right s Yes e = refl
is_right s (No pair rule) e = cc

pub returns-in_ok-wrong_reply-in-Ok-clause-promised :
    goal.returns-in_ok-wrong_reply-in-Ok-clause-promised
returns-in_ok-wrong_reply-in-Ok-clause-promised c zero =
    let right = is_right c.args.schema.now c.in-Ok.answer (ap status_of (sym c.in_ok-wrong_reply-in-Ok.ensures) ∙ zero) in
    let spelled = c.in-Ok.ensures.yes.0 right in
    (spelled.1.0, spelled.1.1, c.in-Ok.ensures.includes right spelled.1.0 spelled.1.1, c.in-Ok.ensures.items right spelled.1.0 spelled.1.1)
