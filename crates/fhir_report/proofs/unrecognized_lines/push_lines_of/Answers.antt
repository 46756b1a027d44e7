use Rattle.std.proofs.Common.{length, ap, ◌∙◌, arith}
use Rattle.fhir_package.specs.Definitions.{of_kind}
use Rattle.fhir_lines.specs.Lines.{lines_seen}
use Rattle.fhir_report.proofs.Unrecognized.{next_lines}
use Rattle.fhir_report.proofs.unrecognized_lines.push_lines_of.Goals as goal

pub loop-place-preserved : goal.loop-place-preserved
loop-place-preserved c =
    next_lines c.args.selection.now c.args.survey.now c.args.kind (of_kind c.args.kind c.args.survey.now.definitions) c.loop-place.place
    (lines_seen c.loop-place.lines.items) (lines_seen c.push_lines_at.new.lines.items) _
    (omega (arith, c.len-place-end.ensures ∙ ap (λ p. length (of_kind c.args.kind p)) c.package.ensures)) c.loop-place.invariant c.in_ok-push_lines_at.ensures
