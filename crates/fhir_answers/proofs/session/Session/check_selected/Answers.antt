use Rattle.std.proofs.Common.{None, Some, ap, ◌∙◌}
use Rattle.std.proofs.lemmas.Result.{IfOk-weaker}
use Rattle.fhir_answers.specs.Reporting.{asked}
use Rattle.fhir_answers.specs.Views.{bytes_seen}
use Rattle.fhir_answers.proofs.Sessions.{checked_so}
use Rattle.fhir_answers.proofs.session.Session.check_selected.Goals as goal

pub returns-in-None-default-clause-promised : goal.returns-in-None-default-clause-promised
returns-in-None-default-clause-promised c =
    IfOk-weaker c.report.result _ _
    (λ r promise zero.
    checked_so c.args.selection.now c.args.self.now (bytes_seen c.args.certificate) (bytes_seen c.args.file) None
    (ap (λ name. asked (bytes_seen name) (bytes_seen c.args.file)) c.in-None-default.is-0) (promise zero))
    c.report.ensures.promised

pub returns-in-Some-Some-clause-promised : goal.returns-in-Some-Some-clause-promised
returns-in-Some-Some-clause-promised c =
    let name = c.in-Some-Some.name.now in
    let bytes = c.in-Some-Some.bytes.now in
    IfOk-weaker c.report-in-Some-Some.result _ _
    (λ r promise zero.
    checked_so c.args.selection.now c.args.self.now (bytes_seen c.args.certificate) (bytes_seen c.args.file) (Some (name, bytes))
    (ap (λ x. asked (bytes_seen x) (bytes_seen c.args.file)) c.in-Some-Some.is-0 ∙ ap (λ x. asked (Some name) (bytes_seen x)) c.in-Some-Some.is-1)
    (promise zero))
    c.report-in-Some-Some.ensures.promised
