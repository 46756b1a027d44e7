use Rattle.std.proofs.Common.{◌∷◌, List, subst}
use Rattle.std.specs.List.{Contains}
use Rattle.fhir_json.specs.declared.position.Position.{Position}
use Rattle.fhir_positions.proofs.Among.{first_there, others_there, there_through, first_among, one_among}
use Rattle.fhir_positions.proofs.nearest.positions_of_stops.Goals as goal

pub loop-stop-preserved : goal.loop-stop-preserved
loop-stop-preserved c =
    let o = c.args.outermost in
    let values = c.args.values.now in
    let before = c.loop-stop.all.items in
    let above = c.position_or-above.result in
    let there = subst (λ (ps : List Position). Contains (o ∷ ps) above) c.deref.ensures.value c.position_or-above.ensures in
    let above_there = there_through (o ∷ before) (o ∷ values) above there (first_among o before (o ∷ values) (first_there o values) c.loop-stop.invariant) in
    let own = there_through (above ∷ values) (o ∷ values) c.nearest.result c.nearest.ensures (first_among above values (o ∷ values) above_there (others_there o values)) in
    one_among before (o ∷ values) c.push.new.self.items c.nearest.result c.in_ok-push.ensures.items c.loop-stop.invariant own
