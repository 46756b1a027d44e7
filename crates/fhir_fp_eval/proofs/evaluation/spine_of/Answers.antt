use Rattle.fhir_fp_eval.proofs.Spines.{step_smaller}
use Rattle.fhir_fp_eval.proofs.evaluation.spine_of.Goals as goal

pub loop-next-smaller : goal.loop-next-smaller
loop-next-smaller c = step_smaller c.loop-next.next c.in-Some.step _ c.in-Some.is c.base_of-next.ensures
