use Rattle.std.proofs.Common.{◌≡◌}
use Rattle.fhir_instance.specs.View.{item_of}
use Rattle.fhir_fp_syntax.specs.Expression.{expression_of}
use Rattle.fhir_fp_values.specs.Values.{node}
use Rattle.fhir_fp_eval.specs.Views.{world_of}
use Rattle.fhir_fp_eval.specs.Meaning.{den}
use Rattle.fhir_fp_eval.specs.Paths.{steps_in, then_steps}
use Rattle.fhir_fp_eval.proofs.paths.Path.of.Given as goal

abbrev pub invariant-loop-before : goal.invariant-loop-before
invariant-loop-before l =
    then_steps (steps_in l.steps) (den (world_of l.env) (expression_of l.start) (node (item_of l.item)))
    ≡ den (world_of l.env) (expression_of l.expr) (node (item_of l.item))

abbrev pub decreases-loop-before : goal.decreases-loop-before
decreases-loop-before l = l.steps.first
