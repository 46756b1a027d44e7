use Rattle.fhir_package.specs.Definitions.{of_kind}
use Rattle.fhir_reach.proofs.Restricted.{next_place}
use Rattle.fhir_reach.proofs.restricting.add_kind.Goals as goal

pub loop-place-preserved : goal.loop-place-preserved
loop-place-preserved c =
    next_place c.args.found.now c.args.kind (of_kind c.args.kind c.args.«package».now) c.loop-place.place c.args.into.now c.loop-place.into
    c.add_at.new.into c.in_ok-add_at.ensures c.loop-place.invariant
