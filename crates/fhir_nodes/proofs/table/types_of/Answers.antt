use Rattle.std.proofs.Common.{arith, drop, ◌-◌}
use Rattle.fhir_nodes.proofs.Finding.{types_before}
use Rattle.fhir_nodes.proofs.table.types_of.Goals as goal

pub loop-i-preserved : goal.loop-i-preserved
loop-i-preserved c = record {
  within = omega arith;
  finds =
      types_before c.args.definitions.now c.loop-i.i (c.loop-i.i - 1) c.index-definitions-i.result c.put_type.new.index (omega arith)
      (omega arith) c.index-definitions-i.is (c.in_ok-put_type.ensures (drop c.loop-i.i c.args.definitions.now) c.loop-i.invariant.finds);
}
