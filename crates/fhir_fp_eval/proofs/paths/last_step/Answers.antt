use Rattle.fhir_fp_syntax.specs.Expression.{expression_of}
use Rattle.fhir_fp_eval.proofs.Visits.{child_step}
use Rattle.fhir_fp_eval.proofs.paths.last_step.Goals as goal

pub returns-in-Some : goal.returns-in-Some
returns-in-Some c = λ w x. child_step w x (expression_of c.args.expr.now) (expression_of c.in-Some.base.now) c.in-Some.name c.in-Some.ensures
