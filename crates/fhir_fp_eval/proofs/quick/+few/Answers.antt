use Rattle.fhir_instance.specs.View.{item_of}
use Rattle.fhir_fp_syntax.specs.Expression.{expression_of}
use Rattle.fhir_fp_values.specs.Values.{node}
use Rattle.fhir_fp_eval.specs.Views.{world_of}
use Rattle.fhir_fp_eval.proofs.Visits.{operated_told}
use Rattle.fhir_fp_eval.proofs.quick.+few.Goals as goal

pub of_operands-returns-in-Some : goal.of_operands-returns-in-Some
of_operands-returns-in-Some t c =
    operated_told (world_of c.args.env.now) (node (item_of c.args.item.now)) (expression_of c.args.expr.now) (expression_of c.in-Some.left.now) (expression_of c.in-Some.right.now)
    c.in-Some.operator c.operated.result c.in-Some.ensures c.operated.ensures
