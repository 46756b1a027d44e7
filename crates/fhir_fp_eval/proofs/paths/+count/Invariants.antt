use Rattle.std.proofs.Common.{◌≡◌, ◌+◌, ◌*◌, drop, length}
use Rattle.fhir_fp_eval.proofs.Visits.{counted}
use Rattle.fhir_fp_eval.proofs.paths.+count.Given as goal

abbrev pub decreases-count_along : goal.decreases-count_along
decreases-count_along l = 3 * length l.steps.now

abbrev pub decreases-count_kid : goal.decreases-count_kid
decreases-count_kid l = 3 * length l.rest.now + 1

abbrev pub decreases-count_kids : goal.decreases-count_kids
decreases-count_kids l = 3 * length l.rest.now + 2

abbrev pub invariant-count_kids-loop-kid : goal.invariant-count_kids-loop-kid
invariant-count_kids-loop-kid l = l.count + counted l.rest l.step (drop l.kid-index l.kids) ≡ counted l.rest l.step l.kids
