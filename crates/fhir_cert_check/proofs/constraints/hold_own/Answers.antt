use Rattle.std.proofs.Common.{◌++◌, take}
use Rattle.fhir_cert_check.specs.Rules.{own_constraints}
use Rattle.fhir_cert_check.proofs.Entailed.{held_next, held_all}
use Rattle.fhir_cert_check.proofs.constraints.hold_own.Goals as goal

pub loop-position-preserved : goal.loop-position-preserved
loop-position-preserved c = λ own holds.
    let cs = own_constraints c.args.schema.now c.args.node in
    let own_items = c.own_constraints-constraint-items in
    held_next c.put.new.self own cs own_items.result.now c.loop-position.position c.constraint-item.result own_items.ensures c.loop-position-test.true c.constraint-item.is
    (c.in_ok-put.ensures (own ++ take c.loop-position.position cs) (c.loop-position.invariant own holds))

pub returns : goal.returns
returns c = λ own holds.
    let own_items = c.own_constraints-constraint-items in
    held_all c.loop-position.held own (own_constraints c.args.schema.now c.args.node) own_items.result.now c.loop-position.position own_items.ensures c.loop-position-test.false
    (c.loop-position.invariant own holds)
