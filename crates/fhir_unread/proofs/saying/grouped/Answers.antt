use Rattle.std.proofs.Common.{refl}
use Rattle.fhir_unread.proofs.Groups.{put_more}
use Rattle.fhir_unread.proofs.saying.grouped.Goals as goal

pub loop-saying-preserved : goal.loop-saying-preserved
loop-saying-preserved c =
    put_more c.args.sayings.now c.loop-saying.saying-index _ _ c.loop-saying.groups c.put.new.groups
    c.loop-saying-test.true refl c.in_ok-put.ensures c.loop-saying.invariant
