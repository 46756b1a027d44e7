use Rattle.std.proofs.Common.{◌++◌, []}
use Rattle.fhir_bulk.proofs.Grown.{grown, not_grown}
use Rattle.fhir_bulk.proofs.relied.Relied.write.Goals as goal

pub loop-text-init : goal.loop-text-init
loop-text-init g c = ([], not_grown (g.W.Write.contents c.args.out.now))

pub loop-text-preserved : goal.loop-text-preserved
loop-text-preserved g c =
    let before = c.loop-text.invariant in (
      before.0 ++ _,
      grown _ _ _ before.0 _ before.1 c.in_ok-write_row.ensures,
    )

pub returns : goal.returns
returns g c = c.loop-text.invariant
