use Rattle.std.proofs.Common.{◌<◌, length, string_bytes, sym, ap, ◌∙◌, subst, arith}
use Rattle.fhir_json.specs.Tree.{Text}
use Rattle.fhir_facets.specs.Carried.{target_unread}
use Rattle.fhir_facets.specs.Targets.{target_holds}
use Rattle.fhir_facets.specs.Unread.{meaning_of}
use Rattle.fhir_facets.specs.Views.{holding_at, IsCarried}
use Rattle.fhir_facets.proofs.Among.{carried_among, any_step}
use Rattle.fhir_facets.proofs.targets.some_target_holds.Goals as goal

pub loop-target-preserved : goal.loop-target-preserved
loop-target-preserved c =
    let targets = c.args.targets.now in
    let i = c.loop-target.target-index in
    let target = c.target-item.result in
    let schema = c.args.schema.now in
    let given = c.args.given.now in
    let lt : i < length targets = omega arith in
    record {
      exact = λ r.
          any_step (target_holds schema (meaning_of given r) c.args.type_name.now) string_bytes targets i target
          (holding_at r c.loop-target.found) (holding_at r c.or-found.result) (holding_at r c.target_holds.result) _
          lt c.target-item.is (c.or-found.ensures.one r)
          (c.target_holds.ensures.exact r ∙ ap (target_holds schema (meaning_of given r) c.args.type_name.now) c.as_str.ensures.value)
          (c.loop-target.invariant.exact r);
      vouched = c.or-found.ensures.vouched given c.loop-target.invariant.vouched c.target_holds.ensures.vouched;
      carried =
          c.or-found.ensures.carried _ c.loop-target.invariant.carried
          (carried_among (target_unread schema) string_bytes c.target_holds.result targets i target lt (sym c.target-item.is)
          (subst (λ (name : Text). IsCarried (target_unread schema name) c.target_holds.result) c.as_str.ensures.value c.target_holds.ensures.carried));
    }
