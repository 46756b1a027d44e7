use Rattle.std.proofs.Common.{sym, ap, ◌∙◌}
use Rattle.fhir_report.specs.Faultless.{certificate_seen}
use Rattle.fhir_answers.specs.Status.{code_of}
use Rattle.fhir_answers.proofs.Sessions.{clean_by, right_of}
use Rattle.fhir_answers.proofs.session.Session.report.Goals as goal

pub returns-clause-promised : goal.returns-clause-promised
returns-clause-promised c zero =
    let clean = clean_by c.in_ok-report.report.is_clean (ap code_of (sym c.report_status.ensures) ∙ zero) in
    right_of c.selected_usable.ensures.usable c.args.selection.now c.schema.result.now c.self.inside.survey c.args.self.now (certificate_seen c.args.certificate)
    (ap (λ s. s.survey) c.self.view_is) c.schema.ensures (c.in_ok-report.ensures.clean clean) (c.in_ok-report.ensures.promised clean)
