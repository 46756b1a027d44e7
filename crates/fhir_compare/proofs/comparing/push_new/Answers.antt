use Rattle.std.proofs.Common.{◌<◌, ◌≤◌, ◌++◌, List, length, ap, arith}
use Rattle.fhir_compare.specs.Comparing.{Said, all_new}
use Rattle.fhir_compare.specs.Views.{all_said}
use Rattle.fhir_compare.proofs.Turns.{news_all, news_turn, news_end}
use Rattle.fhir_compare.proofs.comparing.push_new.Goals as goal

pub loop-place-init : goal.loop-place-init
loop-place-init c =
    let sides = c.args.sides in
    ap (λ (said : List Said). all_said c.args.into.now.items ++ said) (news_all sides.old.now sides.new.now sides.mark.now)

pub loop-place-preserved : goal.loop-place-preserved
loop-place-preserved c =
    let sides = c.args.sides in
    let there : c.loop-place.place < length sides.new.now.structure_definitions = omega (arith, c.len-place-end.ensures, c.loop-place-test.true) in
    news_turn sides.old.now sides.new.now sides.mark.now c.loop-place.place (all_said c.loop-place.into.items) (all_said c.push_new_at.new.into.items)
    (all_said c.args.into.now.items ++ all_new sides.old.now sides.new.now sides.mark.now) there c.loop-place.invariant c.in_ok-push_new_at.ensures

pub returns : goal.returns
returns c =
    let sides = c.args.sides in
    let there : length sides.new.now.structure_definitions ≤ c.loop-place.place = omega (arith, c.len-place-end.ensures, c.loop-place-test.false) in
    news_end sides.old.now sides.new.now sides.mark.now c.loop-place.place (all_said c.loop-place.into.items)
    (all_said c.args.into.now.items ++ all_new sides.old.now sides.new.now sides.mark.now) there c.loop-place.invariant
