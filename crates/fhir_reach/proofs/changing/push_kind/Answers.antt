use Rattle.fhir_package.specs.Definitions.{of_kind}
use Rattle.fhir_reach.specs.Keys.{keys_seen}
use Rattle.fhir_reach.proofs.Changed.{next_at}
use Rattle.fhir_reach.proofs.changing.push_kind.Goals as goal

pub loop-place-preserved : goal.loop-place-preserved
loop-place-preserved c =
    next_at c.args.kind c.args.url.now (of_kind c.args.kind c.args.«package».now) c.loop-place.place (keys_seen c.args.keys.now.items)
    (keys_seen c.loop-place.keys.items) (keys_seen c.push_at.new.keys.items) c.in_ok-push_at.ensures c.loop-place.invariant
