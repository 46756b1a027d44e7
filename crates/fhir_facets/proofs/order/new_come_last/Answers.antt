use Rattle.std.proofs.Common.{ap, ◌∙◌, false}
use Rattle.fhir_schema.specs.Schemas.{slices}
use Rattle.fhir_facets.specs.Order.{is_new, is_kept, has_named}
use Rattle.fhir_facets.proofs.Sequences.{goes_behind, none_behind_is}
use Rattle.fhir_facets.proofs.order.new_come_last.Goals as goal

pub loop-slice-init : goal.loop-slice-init
loop-slice-init c =
    let s = c.args.schema.now in
    let has = has_named s c.args.m in
    ap (goes_behind (is_new has s c.args.n) (is_kept has s c.args.n) false) c.slices-slice-items.ensures
    ∙ none_behind_is (is_new has s c.args.n) (is_kept has s c.args.n) (slices s c.args.n)
