use Rattle.std.proofs.Common.{◌≡◌, ◌+◌, ◌*◌, drop, length}
use Rattle.fhir_fp_eval.proofs.Visits.{first_from}
use Rattle.fhir_fp_eval.proofs.paths.+first.Given as goal

abbrev pub decreases-first_along : goal.decreases-first_along
decreases-first_along l = 3 * length l.steps.now

abbrev pub decreases-first_of_kid : goal.decreases-first_of_kid
decreases-first_of_kid l = 3 * length l.rest.now + 1

abbrev pub decreases-first_of_kids : goal.decreases-first_of_kids
decreases-first_of_kids l = 3 * length l.rest.now + 2

abbrev pub invariant-first_of_kids-loop-kid : goal.invariant-first_of_kids-loop-kid
invariant-first_of_kids-loop-kid l = first_from l.rest l.step (drop l.kid-index l.kids) ≡ first_from l.rest l.step l.kids
