use Rattle.std.proofs.Common.{◌≡◌, ◌<◌, ◌≤◌, ◌++◌, ◌∷◌, [], length, arith}
use Rattle.fhir_definition.specs.Views.{lists_in}
use Rattle.fhir_compare.proofs.Turns.{edges_turn, edges_end, map_more}
use Rattle.fhir_compare.proofs.reaching.edges_of.Goals as goal

pub loop-place-preserved : goal.loop-place-preserved
loop-place-preserved c =
    let there : c.loop-place.place < length c.args.sides.old.now.structure_definitions = omega (arith, c.len-count.ensures, c.loop-place-test.true) in
    let more : lists_in c.push.new.self.items ≡ lists_in c.loop-place.edges.items ++ c.in_ok-leads_at.field-0.items ∷ [] =
    map_more (λ v. v.items) c.loop-place.edges.items c.in_ok-leads_at.field-0 c.push.new.self.items c.in_ok-push.ensures.items in
    edges_turn c.args.sides.old.now c.loop-place.place (lists_in c.loop-place.edges.items) (lists_in c.push.new.self.items) c.in_ok-leads_at.field-0.items
    there c.loop-place.invariant c.in_ok-leads_at.ensures more

pub returns : goal.returns
returns c =
    let there : length c.args.sides.old.now.structure_definitions ≤ c.loop-place.place = omega (arith, c.len-count.ensures, c.loop-place-test.false) in
    edges_end c.args.sides.old.now c.loop-place.place (lists_in c.loop-place.edges.items) there c.loop-place.invariant
