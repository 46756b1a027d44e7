use Rattle.std.proofs.Common.{arith}
use Rattle.fhir_instance.specs.View.{item_of}
use Rattle.fhir_fp_values.proofs.Heights.{higher}
use Rattle.fhir_fp_eval.proofs.lists.+descend.Goals as goal

pub push_descendants-requires : goal.push_descendants-requires
push_descendants-requires t c =
    let h = higher (item_of c.args.item.now) c.kids-kid-items.result.now c.loop-kid.kid-index c.kid-item.result (item_of c.item-child.result.now) c.kids-kid-items.ensures (omega arith) c.kid-item.is c.item-child.ensures in
    omega (arith, h, c.decreases)
