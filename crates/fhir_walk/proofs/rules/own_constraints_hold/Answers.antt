use Rattle.std.proofs.Common.{◌+◌, ◌-◌, map, sym, ap, ◌∙◌}
use Rattle.std.specs.List.{range_with_len}
use Rattle.fhir_instance.specs.View.{item_of}
use Rattle.fhir_conformance.specs.Asks.{constraint_ask, own_constraint_asks}
use Rattle.fhir_walk.specs.Walks.{passes, pass_all}
use Rattle.fhir_walk.proofs.Turns.{both_left, both_failed, first_counted}
use Rattle.fhir_walk.proofs.rules.own_constraints_hold.Goals as goal

pub returns-then-not-branch : goal.returns-then-not-branch
returns-then-not-branch c = λ here near known.
    let s = c.args.schema.now in
    let x = item_of c.args.item.now in
    let n = c.args.node in
    let i = c.loop-position.position in
    let count = c.constraints_of-position-end.result in
    both_failed (pass_all s here x (own_constraint_asks s n)) (passes s here x (constraint_ask n i)) (pass_all s here x (map (constraint_ask n) (range_with_len (i + 1) (count - (i + 1)))))
    (c.loop-position.invariant here near known ∙ ap (λ is. pass_all s here x (map (constraint_ask n) is)) (first_counted count i c.loop-position-test.true))
    (sym (c.in_ok-constraint_holds_beside.ensures here near known) ∙ c.if-not-branch.true)

pub loop-position-preserved : goal.loop-position-preserved
loop-position-preserved c = λ here near known.
    let s = c.args.schema.now in
    let x = item_of c.args.item.now in
    let n = c.args.node in
    let i = c.loop-position.position in
    let count = c.constraints_of-position-end.result in
    both_left (pass_all s here x (own_constraint_asks s n)) (passes s here x (constraint_ask n i)) (pass_all s here x (map (constraint_ask n) (range_with_len (i + 1) (count - (i + 1)))))
    (c.loop-position.invariant here near known ∙ ap (λ is. pass_all s here x (map (constraint_ask n) is)) (first_counted count i c.loop-position-test.true))
    (sym (c.in_ok-constraint_holds_beside.ensures here near known) ∙ c.if-not-branch.false)
