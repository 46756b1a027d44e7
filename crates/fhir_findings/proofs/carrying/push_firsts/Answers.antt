use Rattle.std.proofs.Common.{◌≡◌, ◌++◌, ◌∷◌, [], List, map, take, length, ◌+◌, sym, ap, subst, ◌∙◌, arith}
use Rattle.std.proofs.lemmas.List.{length-map, length-take-le}
use Rattle.fhir_names.specs.Places.{Finds}
use Rattle.fhir_findings.specs.Carrying.{Carrier, text_of}
use Rattle.fhir_findings.specs.Firsts.{firsts}
use Rattle.fhir_findings.specs.Views.{carrier_seen, carriers_seen}
use Rattle.fhir_findings.proofs.Pushed.{next_first, seen_more}
use Rattle.fhir_findings.proofs.carrying.push_firsts.Goals as goal

pub loop-place-preserved : goal.loop-place-preserved
loop-place-preserved c =
    let before : List Carrier = carriers_seen (take c.loop-place.place c.args.carriers.now) in
    let x : Carrier = carrier_seen c.index-carriers-place.result in
    let more : carriers_seen (take (c.loop-place.place + 1) c.args.carriers.now) ≡ before ++ x ∷ [] =
    seen_more carrier_seen c.args.carriers.now c.loop-place.place c.index-carriers-place.result c.loop-place-test.true c.index-carriers-place.is in
    let long : length before ≡ c.loop-place.place =
    length-map (take c.loop-place.place c.args.carriers.now) carrier_seen
    ∙ length-take-le c.loop-place.place c.args.carriers.now (omega (arith, c.loop-place-test.true)) in
    record {
      found = subst (λ (l : List Carrier). Finds c.push_if_first.new.seen (map text_of l)) (sym more)
          (c.in_ok-push_if_first.ensures.seen before c.loop-place.invariant.found long);
      pushed =
          next_first text_of before (carriers_seen c.args.into.now.items) (carriers_seen c.loop-place.into.items)
          (carriers_seen c.push_if_first.new.into.items) x c.loop-place.invariant.pushed
          (c.in_ok-push_if_first.ensures.pushed before c.loop-place.invariant.found)
          ∙ ap (λ (l : List Carrier). carriers_seen c.args.into.now.items ++ firsts text_of l) (sym more);
    }
