use Rattle.std.proofs.Common.{refl, sym, ◌∙◌}
use Rattle.fhir_findings.specs.Views.{carrier_seen, all_told_seen}
use Rattle.fhir_findings.proofs.Telling.{found_place, within_items, counted_seen, counted_found, new_seen}
use Rattle.fhir_findings.proofs.once.tell.Goals as goal

pub count_more-requires-clause-within : goal.count_more-requires-clause-within
count_more-requires-clause-within c =
    let x = carrier_seen c.args.carrier.now in
    let there = found_place c.args.places.now (all_told_seen c.args.told.now.items) x c.as_str.result.now c.in-Some.place
    (c.as_str.ensures.value ∙ c.in_ok-text.ensures) c.requires.found (sym c.get.ensures ∙ c.in-Some.is) in
    within_items c.args.told.now.items x c.in-Some.place there

pub count_more-requires-clause-room : goal.count_more-requires-clause-room
count_more-requires-clause-room c = λ d.
    let x = carrier_seen c.args.carrier.now in
    let there = found_place c.args.places.now (all_told_seen c.args.told.now.items) x c.as_str.result.now c.in-Some.place
    (c.as_str.ensures.value ∙ c.in_ok-text.ensures) c.requires.found (sym c.get.ensures ∙ c.in-Some.is) in
    c.requires.room c.in-Some.place d (within_items c.args.told.now.items x c.in-Some.place there)

pub returns-in-Some-clause-found : goal.returns-in-Some-clause-found
returns-in-Some-clause-found c =
    let x = carrier_seen c.args.carrier.now in
    let there = found_place c.args.places.now (all_told_seen c.args.told.now.items) x c.as_str.result.now c.in-Some.place
    (c.as_str.ensures.value ∙ c.in_ok-text.ensures) c.requires.found (sym c.get.ensures ∙ c.in-Some.is) in
    counted_found c.args.places.now c.args.told.now.items c.count_more.new.told.items x c.in-Some.place there
    (counted_seen c.args.told.now.items c.count_more.new.told.items x c.in-Some.place there c.count_more.ensures) c.requires.found

pub returns-in-Some-clause-told : goal.returns-in-Some-clause-told
returns-in-Some-clause-told c =
    let x = carrier_seen c.args.carrier.now in
    let there = found_place c.args.places.now (all_told_seen c.args.told.now.items) x c.as_str.result.now c.in-Some.place
    (c.as_str.ensures.value ∙ c.in_ok-text.ensures) c.requires.found (sym c.get.ensures ∙ c.in-Some.is) in
    counted_seen c.args.told.now.items c.count_more.new.told.items x c.in-Some.place there c.count_more.ensures

pub returns-clause-told : goal.returns-clause-told
returns-clause-told c =
    new_seen c.args.places.now c.args.told.now.items c.push.new.self.items (record { first = c.args.carrier.now; count = 1 }) c.as_str.result.now
    (c.as_str.ensures.value ∙ c.in_ok-text.ensures) refl c.requires.found (sym c.get.ensures ∙ c.in-None.is) c.in_ok-push-in-None.ensures.items
