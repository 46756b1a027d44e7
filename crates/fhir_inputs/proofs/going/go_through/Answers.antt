use Rattle.std.proofs.Common.{◌<◌, ◌≤◌, subst}
use Rattle.fhir_inputs.proofs.Gone.{one_more, all_gone}
use Rattle.fhir_inputs.proofs.going.go_through.Goals as goal

pub loop-place-preserved : goal.loop-place-preserved
loop-place-preserved g c =
    let one = c.in_ok-tell_input.ensures in
    one_more g.T.Service.answers g.T.Teller.begins g.T.Teller.stops (g.I.Inputs.inputs c.args.inputs.now) c.loop-place.place _ _ _
    (g.W.Write.contents c.args.out.now) (g.W.Write.contents c.loop-place.out) (g.W.Write.contents c.tell_input.new.out)
    one.0 (subst (λ n. c.loop-place.place < n) c.count-place-end.ensures c.loop-place-test.true) c.loop-place.invariant one.1 one.2

pub returns : goal.returns
returns g c =
    all_gone g.T.Service.answers g.T.Teller.begins g.T.Teller.stops (g.I.Inputs.inputs c.args.inputs.now) c.loop-place.place _ _
    (g.W.Write.contents c.args.out.now) (g.W.Write.contents c.loop-place.out)
    (subst (λ n. n ≤ c.loop-place.place) c.count-place-end.ensures c.loop-place-test.false) c.loop-place.invariant
