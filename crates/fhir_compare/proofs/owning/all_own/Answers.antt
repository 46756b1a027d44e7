use Rattle.std.proofs.Common.{◌≡◌, ◌<◌, ◌≤◌, ◌++◌, ◌∷◌, [], length, arith}
use Rattle.fhir_compare.specs.Views.{own_seen, all_owns}
use Rattle.fhir_compare.proofs.Turns.{owns_turn, owns_end, map_more}
use Rattle.fhir_compare.proofs.owning.all_own.Goals as goal

pub loop-place-preserved : goal.loop-place-preserved
loop-place-preserved c =
    let there : c.loop-place.place < length c.args.sides.old.now.structure_definitions = omega (arith, c.len-count.ensures, c.loop-place-test.true) in
    let more : all_owns c.push.new.self.items ≡ all_owns c.loop-place.all.items ++ own_seen c.in_ok-own_at.field-0 ∷ [] =
    map_more own_seen c.loop-place.all.items c.in_ok-own_at.field-0 c.push.new.self.items c.in_ok-push.ensures.items in
    owns_turn c.args.sides.old.now c.args.sides.new.now c.args.sides.mark.now c.loop-place.place (all_owns c.loop-place.all.items)
    (all_owns c.push.new.self.items) (own_seen c.in_ok-own_at.field-0) there c.loop-place.invariant c.in_ok-own_at.ensures more

pub returns : goal.returns
returns c =
    let there : length c.args.sides.old.now.structure_definitions ≤ c.loop-place.place = omega (arith, c.len-count.ensures, c.loop-place-test.false) in
    owns_end c.args.sides.old.now c.args.sides.new.now c.args.sides.mark.now c.loop-place.place (all_owns c.loop-place.all.items) there
    c.loop-place.invariant
