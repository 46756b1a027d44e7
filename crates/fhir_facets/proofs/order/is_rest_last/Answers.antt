use Rattle.std.proofs.Common.{map, is_some, is_none}
use Rattle.fhir_facets.specs.Order.{place_named}
use Rattle.fhir_facets.proofs.Sequences.{none_behind_is}
use Rattle.fhir_facets.proofs.order.is_rest_last.Goals as goal

pub loop-name-init : goal.loop-name-init
loop-name-init c = none_behind_is is_none is_some (map (place_named c.args.schema.now c.args.node) (map (λ name. name.now) c.args.names.now))
