use Rattle.std.proofs.Common.{◌≡◌, None, IfOk, string_bytes, ap, subst}
use Rattle.fhir_unread.specs.Given.{notes}
use Rattle.fhir_unread.specs.Unread.{unread_texts}
use Rattle.fhir_answers.specs.Session.{schema_in}
use Rattle.fhir_answers.proofs.session.Session.vouch.Goals as goal

pub returns-clause-told : goal.returns-clause-told
returns-clause-told c =
    let name = c.args.name.now in
    let bytes = c.args.bytes.now in
    let by_schema =
    subst (λ s. IfOk c.vouch.result (λ g. string_bytes g.notes ≡ notes name (unread_texts None s c.self.inside.survey) bytes)) c.schema.ensures
    c.vouch.ensures.told in
    subst (λ v. IfOk c.vouch.result (λ g. string_bytes g.notes ≡ notes name (unread_texts None (schema_in c.args.self.now) v) bytes))
    (ap (λ s. s.survey) c.self.view_is) by_schema
