use Rattle.std.proofs.Common.{◌≡◌, Ok, map, string_bytes, ap, subst, ◌∙◌}
use Rattle.std.proofs.lemmas.Result.{IfOk-weaker}
use Rattle.fhir_package.specs.Definitions.{Definitions}
use Rattle.fhir_findings.specs.Selecting.{SelectionValue, select}
use Rattle.fhir_answers.specs.Promising.{CheckedOf}
use Rattle.fhir_answers.specs.Session.{SessionValue}
use Rattle.fhir_answers.specs.Views.{bytes_seen}
use Rattle.fhir_answers.proofs.Sessions.{selected}
use Rattle.fhir_answers.proofs.session.Session.check.Goals as goal

pub returns-in-Ok-clause-promised : goal.returns-in-Ok-clause-promised
returns-in-Ok-clause-promised c =
    let p = c.args.self.now.survey.definitions in
    let prefixes = map string_bytes c.args.prefixes.now in
    let same : c.package.result.now ≡ p = c.package.ensures ∙ ap (λ (s : SessionValue). s.survey.definitions) c.self.view_is in
    let is = subst (λ (d : Definitions). select prefixes d ≡ Ok c.in-Ok.selection) same c.in-Ok.ensures in
    IfOk-weaker c.check_selected.result _ _
    (λ r promise zero.
    let right = promise zero in
    (right.0, subst (λ (s : SelectionValue). CheckedOf s p (bytes_seen c.args.certificate) (bytes_seen c.args.file)) (selected prefixes p c.in-Ok.selection is).1 right.1))
    c.check_selected.ensures.promised
