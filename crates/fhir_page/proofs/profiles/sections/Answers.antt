use Rattle.fhir_markup.specs.Views.{element_node}
use Rattle.fhir_page.proofs.Sections.{onward}
use Rattle.fhir_page.proofs.profiles.sections.Goals as goal

pub loop-number-preserved : goal.loop-number-preserved
loop-number-preserved c =
    onward c.args.audited.now c.loop-number.number c.index-audited-number.result (element_node c.loop-number.sections)
    (element_node c.in_ok-section.field-0) (element_node c.push.new.self) c.loop-number-test.true c.index-audited-number.is
    c.loop-number.invariant c.in_ok-section.ensures c.in_ok-push.ensures
