use Rattle.std.proofs.Common.{[]}
use Rattle.fhir_findings.specs.Carrying.{selected_carriers}
use Rattle.fhir_findings.specs.Views.{carriers_seen}
use Rattle.fhir_findings.proofs.Each.{next_place}
use Rattle.fhir_findings.proofs.carrying.carriers.Goals as goal

pub loop-place-preserved : goal.loop-place-preserved
loop-place-preserved c =
    next_place (selected_carriers c.args.selection.now c.args.schema.now c.args.survey.now) c.args.survey.now.definitions.structure_definitions
    c.loop-place.place [] (carriers_seen c.loop-place.found.items) (carriers_seen c.push_at.new.into.items) c.loop-place.invariant
    c.in_ok-push_at.ensures
