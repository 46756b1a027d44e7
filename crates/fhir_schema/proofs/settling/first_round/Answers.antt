use Rattle.std.proofs.Common.{◌≡◌, ◌+◌, ◌<◌, map, length, Some, ap, sym, ◌∙◌, subst}
use Rattle.std.specs.List.{slice_get}
use Rattle.std.proofs.lemmas.Option.{slice_get_within, slice_get-get_or, same_Some}
use Rattle.std.proofs.lemmas.List.{length_push}
use Rattle.fhir_elements.specs.Tests.{first_of}
use Rattle.fhir_elements.specs.Causes.{blamed_reason, is_blame_among}
use Rattle.fhir_definition.specs.Blames.{AreBlamesAmong}
use Rattle.fhir_schema.specs.Settling.{tests, no_reasons}
use Rattle.fhir_schema.proofs.Blamed.{item_at, first_push, among_push}
use Rattle.fhir_schema.proofs.settling.first_round.Goals as goal

pub first_blame-requires : goal.first_blame-requires
first_blame-requires c =
    let ds = c.args.table.now in
    let at : slice_get ds c.loop-place.place ≡ Some c.definition-item.result =
    item_at ds c.definitions-definition-items.result.now c.loop-place.place c.definition-item.result c.definitions-definition-items.ensures
    c.loop-place-test.true c.definition-item.is in
    let below : c.loop-place.place < length ds = slice_get_within ds c.loop-place.place c.definition-item.result at in
    let within : c.loop-place.place < length c.args.lasting.now = subst (λ n. c.loop-place.place < n) (sym c.requires.lasting.counted) below in
    c.requires.lasting.each c.loop-place.place c.definition-item.result _ at (slice_get-get_or c.args.lasting.now c.loop-place.place _ within)

pub loop-place-preserved : goal.loop-place-preserved
loop-place-preserved c =
    let ds = c.args.table.now in
    let place = c.loop-place.place in
    let d = c.definition-item.result in
    let all = c.loop-place.all.items in
    let b = c.first_blame.result in
    let more = length_push all b in
    let at : slice_get ds place ≡ Some d =
    item_at ds c.definitions-definition-items.result.now place d c.definitions-definition-items.ensures c.loop-place-test.true c.definition-item.is in
    record {
      counted = ap length c.in_ok-push.ensures.items ∙ more ∙ ap (λ n. n + 1) c.loop-place.invariant.counted;
      reasons = ap (λ l. map blamed_reason l) c.in_ok-push.ensures.items
          ∙ first_push (λ x. first_of (tests ds (no_reasons ds) x)) c.definitions-definition-items.result.now place d all b c.loop-place-test.true c.definition-item.is
          (c.first_blame.ensures.reason ∙ ap (λ r. first_of (tests ds r d)) c.requires.none) c.loop-place.invariant.reasons;
      elements = subst (AreBlamesAmong ds) (sym c.in_ok-push.ensures.items) (among_push ds all b c.loop-place.invariant.elements (λ x here. (
          let same : Some d ≡ Some x = sym at ∙ ap (slice_get ds) (sym c.loop-place.invariant.counted) ∙ here in
          subst (λ y. is_blame_among (length y.elements) b) (same_Some d x same) c.first_blame.ensures.element)));
    }
