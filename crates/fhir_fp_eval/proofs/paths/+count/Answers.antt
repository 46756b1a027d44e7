use Rattle.std.proofs.Common.{◌≡◌, ◌+◌, arith}
use Rattle.fhir_fp_eval.proofs.Visits.{counted, count_goes, count_ends}
use Rattle.fhir_fp_eval.proofs.paths.+count.Goals as goal

pub count_kids-loop-kid-preserved : goal.count_kids-loop-kid-preserved
count_kids-loop-kid-preserved t c =
    let sum : c.in_ok-count.count ≡ c.loop-kid.count + c.in_ok-count_kid.field-0 = omega (arith, c.in_ok-count.ensures) in
    count_goes c.args.rest.now c.args.step c.args.kids.now c.loop-kid.kid-index c.kid-item.result c.loop-kid.count c.in_ok-count_kid.field-0 c.in_ok-count.count
    (counted c.args.rest.now c.args.step c.args.kids.now) (omega arith) c.kid-item.is c.in_ok-count_kid.ensures sum c.loop-kid.invariant

pub count_kids-returns : goal.count_kids-returns
count_kids-returns t c =
    count_ends c.args.rest.now c.args.step c.args.kids.now c.loop-kid.kid-index c.loop-kid.count (counted c.args.rest.now c.args.step c.args.kids.now) (omega arith) c.loop-kid.invariant
