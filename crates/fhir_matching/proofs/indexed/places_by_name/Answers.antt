use Rattle.std.proofs.Common.{◌≡◌, sym, ◌∙◌}
use Rattle.fhir_json.specs.Views.{property_of}
use Rattle.fhir_matching.proofs.Sides.{name_is}
use Rattle.fhir_matching.proofs.PlaceMaps.{named_more, within_more, all_named}
use Rattle.fhir_matching.proofs.indexed.places_by_name.Goals as goal

pub loop-place-preserved : goal.loop-place-preserved
loop-place-preserved c =
    let ms = c.args.members.now in
    let m = c.index-members-place in
    let loop = c.loop-place in
    let same : c.as_str.result.now ≡ (property_of m.result).0 = c.as_str.ensures.value ∙ name_is m.result in
    let adds = c.in_ok-insert.ensures.updates in
    let lt = c.loop-place-test.true in (
      named_more ms loop.place m.result c.as_str.result loop.places c.insert.new.self lt (sym m.is) same adds loop.invariant.0,
      within_more c.as_str.result loop.place loop.places c.insert.new.self adds loop.invariant.1,
    )

pub returns : goal.returns
returns c =
    let loop = c.loop-place in
    all_named c.args.members.now loop.place loop.places loop.auto.place-end c.loop-place-test.false loop.invariant.0 loop.invariant.1
