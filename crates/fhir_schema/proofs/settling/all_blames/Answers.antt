use Rattle.std.proofs.Common.{◌≡◌, ◌≤◌, ◌+◌, ◌++◌, [], suc, length, take, drop, refl, ap, sym, subst, ◌∙◌, arith}
use Rattle.std.proofs.lemmas.List.{length-map, take_at}
use Rattle.fhir_elements.specs.Tests.{first_of}
use Rattle.fhir_definition.specs.Blames.{AreBlamesAmong}
use Rattle.fhir_definition.specs.Views.{lists_in}
use Rattle.fhir_schema.specs.Settling.{tests, no_reasons}
use Rattle.fhir_schema.specs.Resting.{first_reasons, unusable_from}
use Rattle.fhir_schema.specs.Blaming.{reasons_of, reason_in, all_known, users_judged, users_queued}
use Rattle.fhir_schema.proofs.Blamed.{counted_by}
use Rattle.fhir_schema.proofs.Spreading.{started, turned, settled}
use Rattle.fhir_schema.proofs.settling.all_blames.Goals as goal

pub loop-round-init : goal.loop-round-init
loop-round-init c =
    let ds = c.args.table.now in
    let known = reasons_of c.in_ok-known.known.items in
    let found = reasons_of c.in_ok-found.found.items in
    record {
      counted = counted_by c.in_ok-found.found.items (first_reasons ds) (length ds) c.in_ok-found.ensures.reasons
          (length-map ds (λ d. first_of (tests ds (no_reasons ds) d)));
      found = (
        0,
        refl,
        started ds c.are_placed.ensures known found c.in_ok-last.last.items c.in_ok-known.ensures c.in_ok-found.ensures.reasons
            (c.in_ok-last.ensures ∙ ap (λ l. unusable_from 0 (reasons_of l)) c.deref-3.ensures.value),
      );
      elements = c.in_ok-found.ensures.elements;
    }

pub next_round-requires-clause-counted : goal.next_round-requires-clause-counted
next_round-requires-clause-counted c = ap length c.deref_mut-in-loop-round.ensures.value ∙ c.loop-round.invariant.counted

pub loop-round-preserved : goal.loop-round-preserved
loop-round-preserved c =
    let ds = c.args.table.now in
    let n = c.loop-round.invariant.found.0 in
    let known_new = c.know_each.new.known in
    let found_new = c.next_round.new.found in
    let known_long : length known_new ≡ c.loop-round.known.len = omega arith in
    let found_long : length found_new ≡ c.loop-round.found.len = omega arith in
    let step : suc c.loop-round._round ≡ c.loop-round._round + 1 = omega arith in
    let known_is = take_at known_new (drop (length known_new) c.loop-round.known.items) c.loop-round.known.len known_long in
    let found_is = take_at found_new (drop (length found_new) c.loop-round.found.items) c.loop-round.found.len found_long in
    let before = reasons_of c.deref-in-loop-round-4.result.now in
    let last = c.loop-round.last.items in
    let found = reasons_of c.loop-round.found.items in
    let users = lists_in c.deref-in-loop-round-5.result.now in
    let known_now = ap reasons_of c.deref-in-loop-round-4.ensures.value in
    let found_was = ap reasons_of c.deref_mut-in-loop-round.ensures.value in
    let last_is = c.deref-in-loop-round-6.ensures.value in
    record {
      counted = ap length found_is ∙ c.in_ok-last-2.ensures.counted ∙ ap length c.deref_mut-in-loop-round.ensures.value ∙ c.loop-round.invariant.counted;
      found = (
        suc n,
        ap suc c.loop-round.invariant.found.1 ∙ step,
        turned ds c.are_placed.ensures n (reasons_of c.loop-round.known.items) found last c.loop-round.invariant.found.2
            (reasons_of (take c.loop-round.known.len (known_new ++ drop (length known_new) c.loop-round.known.items)))
            (reasons_of (take c.loop-round.found.len (found_new ++ drop (length found_new) c.loop-round.found.items)))
            users c.in_ok-last-2.last.items
            (ap lists_in c.deref-in-loop-round-5.ensures.value ∙ c.in_ok-users.ensures)
            (ap reasons_of known_is ∙ c.know_each.ensures
            ∙ ap (λ l. all_known l (reasons_of c.deref-in-loop-round-2.result.now) (reasons_of c.deref_mut.result.now)) c.deref-in-loop-round.ensures.value
            ∙ ap (λ l. all_known last (reasons_of l) (reasons_of c.deref_mut.result.now)) c.deref-in-loop-round-2.ensures.value
            ∙ ap (λ l. all_known last found (reasons_of l)) c.deref_mut.ensures.value)
            (ap reasons_of found_is ∙ c.in_ok-last-2.ensures.reasons
            ∙ ap (λ b. users_judged (reason_in ds b) users c.deref-in-loop-round-6.result.now (reasons_of c.deref_mut-in-loop-round.result.now)) known_now
            ∙ ap (λ l. users_judged (reason_in ds (reasons_of (take c.loop-round.known.len (known_new ++ drop (length known_new) c.loop-round.known.items)))) users l (reasons_of c.deref_mut-in-loop-round.result.now)) last_is
            ∙ ap (users_judged (reason_in ds (reasons_of (take c.loop-round.known.len (known_new ++ drop (length known_new) c.loop-round.known.items)))) users last) found_was)
            (c.in_ok-last-2.ensures.round
            ∙ ap (λ b. users_queued (reason_in ds b) users c.deref-in-loop-round-6.result.now (reasons_of c.deref_mut-in-loop-round.result.now) []) known_now
            ∙ ap (λ l. users_queued (reason_in ds (reasons_of (take c.loop-round.known.len (known_new ++ drop (length known_new) c.loop-round.known.items)))) users l (reasons_of c.deref_mut-in-loop-round.result.now) []) last_is
            ∙ ap (λ f. users_queued (reason_in ds (reasons_of (take c.loop-round.known.len (known_new ++ drop (length known_new) c.loop-round.known.items)))) users last f []) found_was),
      );
      elements = subst (AreBlamesAmong ds) (sym found_is) (c.in_ok-last-2.ensures.elements (subst (AreBlamesAmong ds) (sym c.deref_mut-in-loop-round.ensures.value) c.loop-round.invariant.elements));
    }

pub returns-clause-reasons : goal.returns-clause-reasons
returns-clause-reasons c =
    let ds = c.args.table.now in
    let n = c.loop-round.invariant.found.0 in
    let is : suc n ≡ c.loop-round._round = c.loop-round.invariant.found.1 in
    let long : length c.definitions-round-end.result.now ≡ length ds = ap length c.definitions-round-end.ensures in
    let enough : length ds ≤ suc n = omega (arith, is, long) in
    settled ds c.are_placed.ensures n (reasons_of c.loop-round.known.items) (reasons_of c.loop-round.found.items) c.loop-round.last.items enough c.loop-round.invariant.found.2

pub returns-clause-elements : goal.returns-clause-elements
returns-clause-elements c = c.loop-round.invariant.elements
