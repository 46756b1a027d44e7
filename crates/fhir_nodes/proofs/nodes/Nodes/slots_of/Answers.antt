use Rattle.std.proofs.Common.{arith}
use Rattle.fhir_nodes.specs.Slots.{slots_of}
use Rattle.fhir_nodes.proofs.Resolved.{one_more}
use Rattle.fhir_nodes.proofs.nodes.Nodes.slots_of.Goals as goal

pub loop-definition-preserved : goal.loop-definition-preserved
loop-definition-preserved c =
    one_more (λ v. v.items) (slots_of c.args.table.now) c.loop-definition.slots.items c.push.new.self.items
    c.definitions-definition-items.result.now c.loop-definition.definition-index c.in_ok-slots_of.field-0 c.definition-item.result
    (omega arith) c.definition-item.is c.in_ok-push.ensures.items c.in_ok-slots_of.ensures c.loop-definition.invariant
