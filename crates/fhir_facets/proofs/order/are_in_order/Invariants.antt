use Rattle.std.proofs.Common.{◌≡◌, drop, map}
use Rattle.fhir_facets.specs.Order.{place_named, are_in_order}
use Rattle.fhir_facets.proofs.Sequences.{goes_on}
use Rattle.fhir_facets.proofs.order.are_in_order.Given as goal

abbrev pub invariant-loop-name : goal.invariant-loop-name
invariant-loop-name l =
    goes_on l.last (map (place_named l.schema l.node) (map (λ name. name.now) (drop l.name-index l.names)))
    ≡ are_in_order (map (place_named l.schema l.node) (map (λ name. name.now) l.names))
