use Rattle.std.proofs.Common.{drop, ◌-◌, arith}
use Rattle.fhir_definition.proofs.Identified.{ids_before, ids_next}
use Rattle.fhir_definition.proofs.by_id.ids_of.Goals as goal

pub loop-i-preserved : goal.loop-i-preserved
loop-i-preserved c =
    let es = c.args.elements.now in
    let i = c.loop-i.i - 1 in
    record {
      within = omega arith;
      finds =
          ids_before es c.loop-i.i i c.index-elements-i.result c.put_id.new.index (omega arith) (omega arith) c.index-elements-i.is
          (c.in_ok-put_id.ensures (drop c.loop-i.i es) (ids_next es c.loop-i.i i c.loop-i.index (omega arith) c.loop-i.invariant.finds));
    }
