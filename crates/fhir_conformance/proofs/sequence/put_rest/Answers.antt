use Rattle.std.proofs.Common.{ap, ◌++◌}
use Rattle.fhir_instance.specs.View.{item_of}
use Rattle.fhir_conformance.specs.Views.{asks_seen}
use Rattle.fhir_conformance.proofs.Standing.{rest_is}
use Rattle.fhir_conformance.proofs.sequence.put_rest.Goals as goal

pub loop-place-init : goal.loop-place-init
loop-place-init c = ap (λ asks. asks_seen c.args.asked.now.items ++ asks) (rest_is c.args.schema.now (item_of c.args.item.now) c.args.node c.args.places.now)
