use Rattle.std.proofs.Common.{◌≡◌, drop, map, is_some, is_none}
use Rattle.fhir_facets.specs.Order.{place_named, is_rest_last}
use Rattle.fhir_facets.proofs.Sequences.{goes_behind}
use Rattle.fhir_facets.proofs.order.is_rest_last.Given as goal

abbrev pub invariant-loop-name : goal.invariant-loop-name
invariant-loop-name l =
    goes_behind is_none is_some l.is_rest (map (place_named l.schema l.node) (map (λ name. name.now) (drop l.name-index l.names)))
    ≡ is_rest_last (map (place_named l.schema l.node) (map (λ name. name.now) l.names))
