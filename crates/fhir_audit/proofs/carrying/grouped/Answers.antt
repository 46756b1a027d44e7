use Rattle.std.proofs.Common.{sym}
use Rattle.fhir_audit.proofs.Groups.{put_more}
use Rattle.fhir_audit.proofs.carrying.grouped.Goals as goal

pub loop-carrier-preserved : goal.loop-carrier-preserved
loop-carrier-preserved c =
    let carrier = c.carrier-item.result in
    put_more c.args.carriers.now c.loop-carrier.carrier-index carrier carrier c.loop-carrier.groups c.put.new.groups
    c.loop-carrier-test.true (sym c.carrier-item.is) c.in_ok-put.ensures c.loop-carrier.invariant
