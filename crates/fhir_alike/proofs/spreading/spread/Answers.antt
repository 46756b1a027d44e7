use Rattle.std.proofs.Common.{◌≡◌, ℕ, get_or, ap, sym, subst, ◌∙◌, length, arith}
use Rattle.std.proofs.lemmas.List.{length-map, get_or_default}
use Rattle.fhir_definition.specs.Views.{lists_in}
use Rattle.fhir_alike.specs.Spreading.{ToldValue, users_of, carry}
use Rattle.fhir_alike.proofs.Spreads.{IsCarried, carried_first, carried_turn, carried_last}
use Rattle.fhir_alike.proofs.spreading.spread.Goals as goal

pub loop-at-init : goal.loop-at-init
loop-at-init c =
    let same : length c.args.marks.now ≡ length (lists_in c.args.edges.now) = c.requires ∙ sym (length-map c.args.edges.now (λ v. v.items)) in
    record {
      users = c.in_ok-users.ensures;
      carried = subst (IsCarried (lists_in c.args.edges.now) c.args.marks.now 0) (sym c.in_ok-told.ensures)
          (carried_first (lists_in c.args.edges.now) c.args.marks.now same);
    }

pub loop-at-preserved : goal.loop-at-preserved
loop-at-preserved c =
    let old : ToldValue = (c.loop-at.told.marks.items, c.loop-at.told.queue.items) in
    let place : ℕ = c.index-place.result.now in
    let there : place ≡ get_or c.loop-at.told.queue.items c.loop-at.at 0 =
    c.index-place.ensures ∙ get_or_default c.loop-at.told.queue.items c.loop-at.at place 0 (omega arith) in
    record {
      users = c.loop-at.invariant.users;
      carried = carried_turn (lists_in c.args.edges.now) c.args.marks.now c.loop-at.at old
          (c.carry.new.told.marks.items, c.carry.new.told.queue.items) c.loop-at.invariant.carried (omega arith)
          (c.in_ok-carry.ensures
          ∙ ap (λ us. carry (lists_in us) place old) c.deref.ensures.value
          ∙ ap (λ us. carry us place old) c.loop-at.invariant.users
          ∙ ap (λ p. carry (users_of (lists_in c.args.edges.now)) p old) there);
    }

pub returns : goal.returns
returns c =
    carried_last (lists_in c.args.edges.now) c.args.marks.now c.loop-at.at (c.loop-at.told.marks.items, c.loop-at.told.queue.items)
    c.loop-at.invariant.carried (omega arith)
