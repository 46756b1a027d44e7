use Rattle.std.proofs.Common.{rules, arith}
use Rattle.fhir_fp_eval.proofs.Visits.{one_pair}
use Rattle.fhir_fp_eval.proofs.quick.same_values.Goals as goal

pub returns : goal.returns
returns c = simp one_pair (first_of (search rules, grind arith))
