use Rattle.std.proofs.Common.{ap, ◌∙◌, map, None}
use Rattle.fhir_schema.specs.Schemas.{slices}
use Rattle.fhir_facets.specs.Order.{base_place}
use Rattle.fhir_facets.proofs.Sequences.{goes_on, in_order_is}
use Rattle.fhir_facets.proofs.order.keeps_order.Goals as goal

pub loop-slice-init : goal.loop-slice-init
loop-slice-init c =
    let place = base_place c.args.schema.now c.args.n c.args.m in
    ap (λ ss. goes_on None (map place ss)) c.slices-slice-items.ensures ∙ in_order_is (map place (slices c.args.schema.now c.args.n))
