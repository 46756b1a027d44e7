use Rattle.std.proofs.Common.{sym}
use Rattle.fhir_conformance.proofs.Placing.{put_more}
use Rattle.fhir_conformance.proofs.kids_by_name.places_by_name.Goals as goal

pub loop-position-preserved : goal.loop-position-preserved
loop-position-preserved c =
    let kid = c.index-kids-position in
    let loop = c.loop-position in
    put_more c.args.kids.now loop.position kid.result loop.places c.put.new.places c.name.result.now
    c.loop-position-test.true (sym kid.is) c.name.ensures c.in_ok-put.ensures loop.invariant
