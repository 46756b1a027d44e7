use Rattle.fhir_reach.specs.Keys.{keys_seen}
use Rattle.fhir_reach.proofs.Restricted.{all_kinds}
use Rattle.fhir_reach.proofs.restricting.restrict.Goals as goal

pub returns : goal.returns
returns c =
    all_kinds c.in_ok-found.found c.args.«package».now (keys_seen c.args.keys.now) c.new-into.result c.add_kind.new.into c.add_kind-2.new.into
    c.add_kind-3.new.into c.in_ok-found.ensures c.new-into.ensures c.in_ok-add_kind.ensures c.in_ok-add_kind-2.ensures c.in_ok-add_kind-3.ensures
