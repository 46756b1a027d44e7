use Rattle.std.proofs.Common.{◌+◌, ◌*◌}
use Rattle.fhir_fp_eval.proofs.quick.+few.Given as goal

abbrev pub decreases-few : goal.decreases-few
decreases-few l = 3 * l.depth

abbrev pub decreases-called : goal.decreases-called
decreases-called l = 3 * l.depth + 1

abbrev pub decreases-operated : goal.decreases-operated
decreases-operated l = 3 * l.depth + 1

abbrev pub decreases-of_operands : goal.decreases-of_operands
decreases-of_operands l = 3 * l.depth + 2
