use Rattle.fhir_schema.specs.Schemas.{elements_at}
use Rattle.fhir_findings.specs.Carrying.{element_carriers}
use Rattle.fhir_findings.specs.Views.{carriers_seen, spot_seen}
use Rattle.fhir_findings.proofs.Each.{next_place}
use Rattle.fhir_findings.proofs.carrying.push_elements.Goals as goal

pub loop-element-preserved : goal.loop-element-preserved
loop-element-preserved c =
    next_place (element_carriers c.args.schema.now (spot_seen c.args.spot.now) c.args.place) (elements_at c.args.schema.now c.args.place)
    c.loop-element.element (carriers_seen c.args.into.now.items) (carriers_seen c.loop-element.into.items)
    (carriers_seen c.push_node.new.into.items) c.loop-element.invariant c.in_ok-push_node.ensures
