use Rattle.std.proofs.Common.{◌≡◌, ◌≤◌, List, length, take, Some, sym, subst, arith}
use Rattle.std.specs.List.{slice_get}
use Rattle.std.specs.Map.{keys_of}
use Rattle.std.proofs.lemmas.List.{take_all}
use Rattle.fhir_json.specs.Tree.{Text, Tree}
use Rattle.fhir_json.specs.Views.{tree_of}
use Rattle.fhir_codes.specs.Placing.{Completes}
use Rattle.fhir_codes.proofs.Completes.{completes_all}
use Rattle.fhir_codes.proofs.Looping.{keys_more}
use Rattle.fhir_codes.proofs.sources.complete_of.Goals as goal

pub loop-place-preserved : goal.loop-place-preserved
loop-place-preserved c =
    let es = c.args.from.now.code_systems in
    let e : Text × Tree = (c.in-Some.url.now, tree_of c.in-Some._tree.now) in
    let at : slice_get es c.loop-place.place ≡ Some e = sym c.in-Some.ensures in
    subst (Completes c.args.from.now c.put_complete.new.complete) (keys_more es c.loop-place.place e at) (c.in_ok-put_complete.ensures (keys_of (take c.loop-place.place es)) c.loop-place.invariant)

pub returns : goal.returns
returns c =
    let es = c.args.from.now.code_systems in
    let past : length es ≤ c.loop-place.place = omega (arith, c.len-place-end.ensures, c.loop-place-test.false) in
    completes_all c.args.from.now c.loop-place.complete
    (subst (λ (xs : List (Text × Tree)). Completes c.args.from.now c.loop-place.complete (keys_of xs)) (take_all c.loop-place.place es past) c.loop-place.invariant)
