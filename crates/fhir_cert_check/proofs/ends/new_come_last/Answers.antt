use Rattle.std.proofs.Common.{ap, ◌∙◌, false}
use Rattle.fhir_schema.specs.Schemas.{slices}
use Rattle.fhir_facets.specs.Order.{is_new, is_kept}
use Rattle.fhir_facets.proofs.Sequences.{goes_behind, none_behind_is}
use Rattle.fhir_cert_check.specs.Rules.{is_shared}
use Rattle.fhir_cert_check.proofs.ends.new_come_last.Goals as goal

pub loop-own-init : goal.loop-own-init
loop-own-init c =
    let s = c.args.schema.now in
    let has = is_shared s c.args.n c.args.m in
    ap (goes_behind (is_new has s c.args.n) (is_kept has s c.args.n) false) c.slices-own-items.ensures
    ∙ none_behind_is (is_new has s c.args.n) (is_kept has s c.args.n) (slices s c.args.n)
