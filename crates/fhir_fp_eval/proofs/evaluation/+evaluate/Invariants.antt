use Rattle.std.proofs.Common.{◌≡◌, ◌+◌, ◌*◌, drop, length, Ok}
use Rattle.fhir_fp_syntax.specs.Expression.{expression_of}
use Rattle.fhir_fp_values.specs.Views.{plain_of, plains_of}
use Rattle.fhir_fp_eval.specs.Views.{world_of}
use Rattle.fhir_fp_eval.specs.Meaning.{values_where, den}
use Rattle.fhir_fp_eval.specs.Spines.{steps_of}
use Rattle.fhir_fp_eval.proofs.Kept.{in_front}
use Rattle.fhir_fp_eval.proofs.Spines.{climbed, size, Within}
use Rattle.fhir_fp_eval.proofs.evaluation.+evaluate.Given as goal

abbrev pub decreases-made_of : goal.decreases-made_of
decreases-made_of l = 4 * size (expression_of l.expr.now)

abbrev pub decreases-evaluate : goal.decreases-evaluate
decreases-evaluate l = 4 * size (expression_of l.expr.now) + 1

abbrev pub decreases-criteria_hold : goal.decreases-criteria_hold
decreases-criteria_hold l = 4 * size (expression_of l.criteria.now) + 2

abbrev pub decreases-values_where : goal.decreases-values_where
decreases-values_where l = 4 * size (expression_of l.criteria.now) + 3

abbrev pub invariant-values_where-loop-value : goal.invariant-values_where-loop-value
invariant-values_where-loop-value l =
    in_front (plains_of l.found.items) (values_where (den (world_of l.env) (expression_of l.criteria)) (plains_of (drop l.value-index l.values)))
    ≡ values_where (den (world_of l.env) (expression_of l.criteria)) (plains_of l.values)

abbrev pub invariant-evaluate-loop-step : goal.invariant-evaluate-loop-step
invariant-evaluate-loop-step l = record {
  exact : climbed (world_of l.env) (plain_of l.this) (steps_of l.steps.items) (Ok (plains_of l.values.items))
      ≡ den (world_of l.env) (expression_of l.expr) (plain_of l.this);
  within : Within (size (expression_of l.expr)) (steps_of l.steps.items);
}

abbrev pub decreases-evaluate-loop-step : goal.decreases-evaluate-loop-step
decreases-evaluate-loop-step l = length l.steps.items
