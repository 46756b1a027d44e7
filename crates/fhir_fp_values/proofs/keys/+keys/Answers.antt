use Rattle.std.proofs.Common.{arith}
use Rattle.fhir_fp_values.proofs.Sorted.{one_below}
use Rattle.fhir_fp_values.proofs.keys.+keys.Goals as goal

pub push_sorted-push_kid-requires : goal.push_sorted-push_kid-requires
push_sorted-push_kid-requires t c =
    let h = one_below c.args.kids.now c.loop-one.one-index c.one-item.result (omega arith) c.one-item.is in
    omega (arith, h, c.decreases)
