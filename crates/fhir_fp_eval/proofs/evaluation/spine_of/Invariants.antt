use Rattle.std.proofs.Common.{◌≡◌, ◌++◌}
use Rattle.std.specs.Option.{option_map}
use Rattle.fhir_fp_syntax.specs.Expression.{expression_of}
use Rattle.fhir_fp_eval.specs.Spines.{spine, steps_of}
use Rattle.fhir_fp_eval.proofs.Spines.{spine_from, size_from}
use Rattle.fhir_fp_eval.proofs.evaluation.spine_of.Given as goal

abbrev pub invariant-loop-next : goal.invariant-loop-next
invariant-loop-next l =
    steps_of l.steps.items ++ spine_from (option_map (λ e. expression_of e.now) l.next) ≡ spine (expression_of l.expr)

abbrev pub decreases-loop-next : goal.decreases-loop-next
decreases-loop-next l = size_from (option_map (λ e. expression_of e.now) l.next)
