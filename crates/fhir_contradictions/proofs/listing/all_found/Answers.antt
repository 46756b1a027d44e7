use Rattle.fhir_contradictions.proofs.Told.{step_of}
use Rattle.fhir_contradictions.proofs.listing.all_found.Goals as goal

pub loop-at-preserved : goal.loop-at-preserved
loop-at-preserved c =
    step_of c.args.schema.now c.args.place c.elements_at-element-items.result.now c.loop-at.at c.element-item.result c.loop-at.known.items
    c.push_both.new.known.items c.loop-at.found.items c.push_both.new.into.items _ c.loop-at-test.true c.element-item.is
    c.in_ok-push_both.ensures.known c.in_ok-push_both.ensures.found c.loop-at.invariant
