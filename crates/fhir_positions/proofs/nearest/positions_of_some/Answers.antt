use Rattle.std.proofs.Common.{◌∷◌, length, ap, ◌∙◌, arith}
use Rattle.std.proofs.lemmas.List.{length_push}
use Rattle.fhir_positions.proofs.Among.{one_among}
use Rattle.fhir_positions.proofs.nearest.positions_of_some.Goals as goal

pub loop-stop-preserved : goal.loop-stop-preserved
loop-stop-preserved c =
    let before = c.loop-stop.found.items in
    let longer = ap length c.in_ok-push.ensures.items ∙ length_push before c.position_or.result in
    record {
      count = omega (arith, longer, c.loop-stop.invariant.count);
      among = one_among before (c.args.outermost ∷ c.args.all.now) c.push.new.self.items c.position_or.result c.in_ok-push.ensures.items
          c.loop-stop.invariant.among c.position_or.ensures;
    }
