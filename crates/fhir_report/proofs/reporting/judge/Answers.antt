use Rattle.std.proofs.Common.{Ok, ap, ◌∙◌}
use Rattle.std.proofs.lemmas.Result.{IfOk-weaker}
use Rattle.fhir_certificate.specs.Reading.{reading}
use Rattle.fhir_cert_check.specs.Checking.{answer_of}
use Rattle.fhir_cert_check.specs.Views.{rule_name, wrong_in, is_yes}
use Rattle.fhir_lines.specs.Lines.{line_seen, lines_seen}
use Rattle.fhir_report.proofs.Told.{no_told}
use Rattle.fhir_report.proofs.reporting.judge.Goals as goal

pub returns-in_ok-line-in-Ok-No-clause-told : goal.returns-in_ok-line-in-Ok-No-clause-told
returns-in_ok-line-in-Ok-No-clause-told c =
    IfOk-weaker c.one_line-in-Ok-No.result _ _
    (λ j is.
    no_told c.args.schema.now c.args.certificate.name.now (answer_of (reading c.args.schema.now c.args.certificate.bytes.now) c.args.schema.now)
    (c.in-Ok-No.pair, rule_name c.in-Ok-No.rule) (line_seen c.in_ok-line-in-Ok-No.line) (lines_seen j.lines.items) (c.in-Ok-No.ensures.first ∙ ap (λ a. Ok (wrong_in a)) c.in-Ok-No.field-0-is)
    c.in_ok-line-in-Ok-No.ensures is.1)
    c.one_line-in-Ok-No.ensures

pub returns-in_ok-text-in-Ok-Yes-clause-promised : goal.returns-in_ok-text-in-Ok-Yes-clause-promised
returns-in_ok-text-in-Ok-Yes-clause-promised c =
    let yes = ap is_yes c.in-Ok-Yes.field-0-is in
    let spelled = c.in-Ok-Yes.ensures.yes.0 yes in
    let w = spelled.1.0 in
    let spells = spelled.1.1 in
    IfOk-weaker c.one_line.result _ _
    (λ j told right. (w, spells, c.in-Ok-Yes.ensures.includes yes w spells, c.in-Ok-Yes.ensures.items yes w spells))
    c.one_line.ensures
