use Rattle.std.proofs.Common.{Some, None, refl, arith}
use Rattle.fhir_instance.specs.View.{item_of}
use Rattle.fhir_fp_values.specs.Values.{node}
use Rattle.fhir_fp_eval.proofs.Visits.{first_from, first_goes, first_found, first_ends}
use Rattle.fhir_fp_eval.proofs.paths.+first.Goals as goal

pub first_of_kids-returns-in-Some : goal.first_of_kids-returns-in-Some
first_of_kids-returns-in-Some t c =
    first_found c.args.rest.now c.args.step c.args.kids.now c.loop-kid.kid-index c.kid-item.result (Some (node (item_of c.in-Some.found.now)))
    (first_from c.args.rest.now c.args.step c.args.kids.now) (node (item_of c.in-Some.found.now)) (omega arith) c.kid-item.is c.in-Some.ensures refl c.loop-kid.invariant

pub first_of_kids-loop-kid-preserved : goal.first_of_kids-loop-kid-preserved
first_of_kids-loop-kid-preserved t c =
    first_goes c.args.rest.now c.args.step c.args.kids.now c.loop-kid.kid-index c.kid-item.result None (first_from c.args.rest.now c.args.step c.args.kids.now)
    (omega arith) c.kid-item.is c.in-None.ensures refl c.loop-kid.invariant

pub first_of_kids-returns : goal.first_of_kids-returns
first_of_kids-returns t c =
    first_ends c.args.rest.now c.args.step c.args.kids.now c.loop-kid.kid-index (first_from c.args.rest.now c.args.step c.args.kids.now) (omega arith) c.loop-kid.invariant
