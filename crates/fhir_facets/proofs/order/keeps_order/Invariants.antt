use Rattle.std.proofs.Common.{◌≡◌, drop, map}
use Rattle.fhir_schema.specs.Schemas.{slices}
use Rattle.fhir_facets.specs.Order.{base_place, are_in_order}
use Rattle.fhir_facets.proofs.Sequences.{goes_on}
use Rattle.fhir_facets.proofs.order.keeps_order.Given as goal

abbrev pub invariant-loop-slice : goal.invariant-loop-slice
invariant-loop-slice l =
    goes_on l.last (map (base_place l.schema l.n l.m) (drop l.slice-index l.slice-items))
    ≡ are_in_order (map (base_place l.schema l.n l.m) (slices l.schema l.n))
