use Rattle.std.proofs.Common.{map}
use Rattle.fhir_facets.specs.Order.{place_named}
use Rattle.fhir_facets.proofs.Sequences.{in_order_is}
use Rattle.fhir_facets.proofs.order.are_in_order.Goals as goal

pub loop-name-init : goal.loop-name-init
loop-name-init c = in_order_is (map (place_named c.args.schema.now c.args.node) (map (λ name. name.now) c.args.names.now))
