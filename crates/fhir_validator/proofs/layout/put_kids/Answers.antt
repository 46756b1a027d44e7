use Rattle.std.proofs.Common.{map, arith, sym, ap, ◌∙◌, subst}
use Rattle.std.specs.List.{AllByRecursion}
use Rattle.fhir_instance.specs.View.{item_of}
use Rattle.fhir_validator.specs.Layouts.{spot_in, spot_of, IsStand}
use Rattle.fhir_validator.proofs.Rows.{spot_of_kid, put_next, put_all, all_pushed}
use Rattle.fhir_validator.proofs.layout.put_kids.Goals as goal

pub loop-position-preserved : goal.loop-position-preserved
loop-position-preserved c =
    let s = c.args.schema.now in
    let around = item_of c.args.around.now in
    record {
      items = ap (map spot_in) c.in_ok-push.ensures.items
          ∙ put_next spot_in (spot_of_kid s around) c.loop-position.stands.items c.in_ok-stand.stand (map spot_in c.args.stands.now.items) c.kids-kids.result.now
          c.loop-position.position c.index-kids-position.result c.loop-position-test.true c.index-kids-position.is c.loop-position.invariant.items
          (c.in_ok-stand.ensures.item ∙ ap (spot_of s around) c.item.ensures);
      stands = λ before. subst (λ xs. AllByRecursion (IsStand s) xs) (sym c.in_ok-push.ensures.items)
          (all_pushed (IsStand s) c.loop-position.stands.items c.in_ok-stand.stand (c.loop-position.invariant.stands before) c.in_ok-stand.ensures.stand);
    }

pub returns-clause-items : goal.returns-clause-items
returns-clause-items c =
    put_all c.args.schema.now (item_of c.args.around.now) spot_in c.loop-position.stands.items c.kids-kids.result.now (item_of c.args.item.now) c.loop-position.position
    (map spot_in c.args.stands.now.items) c.kids-kids.ensures (omega arith) c.loop-position.invariant.items
