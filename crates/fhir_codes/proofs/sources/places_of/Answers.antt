use Rattle.std.proofs.Common.{◌≡◌, ◌≤◌, length, take, Some, sym, subst, arith}
use Rattle.std.specs.List.{slice_get}
use Rattle.std.specs.Map.{keys_of}
use Rattle.fhir_json.specs.Tree.{Text, Tree}
use Rattle.fhir_json.specs.Views.{tree_of}
use Rattle.fhir_names.specs.Places.{Finds}
use Rattle.fhir_codes.proofs.Looping.{keys_more, count_keys}
use Rattle.fhir_codes.proofs.sources.places_of.Goals as goal

pub loop-place-preserved : goal.loop-place-preserved
loop-place-preserved c =
    let es = c.args.from.now.value_sets in
    let e : Text × Tree = (c.in-Some.url.now, tree_of c.in-Some._tree.now) in
    let at : slice_get es c.loop-place.place ≡ Some e = sym c.in-Some.ensures in
    let below : c.loop-place.place ≤ length es = omega (arith, c.len-place-end.ensures) in
    subst (Finds c.add.new.self) (keys_more es c.loop-place.place e at) (c.in_ok-add.ensures.added (keys_of (take c.loop-place.place es)) c.loop-place.invariant (count_keys es c.loop-place.place below))
