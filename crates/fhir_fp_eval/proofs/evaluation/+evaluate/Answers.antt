use Rattle.std.proofs.Common.{◌≤◌, ◌+◌, drop, List, ap, ◌∙◌, arith}
use Rattle.std.proofs.lemmas.Result.{err_from_is_err_and}
use Rattle.fhir_fp_syntax.specs.Expression.{expression_of}
use Rattle.fhir_fp_values.specs.Values.{Plain}
use Rattle.fhir_fp_values.specs.Views.{plain_of, plains_of}
use Rattle.fhir_fp_eval.specs.Views.{world_of}
use Rattle.fhir_fp_eval.specs.Meaning.{den, values_where}
use Rattle.fhir_fp_eval.proofs.Kept.{in_front, kept_fails, kept_goes, kept_ends}
use Rattle.fhir_fp_eval.specs.Spines.{steps_of}
use Rattle.fhir_fp_eval.proofs.Spines.{size, steps_end, started, climb_fails, climb_goes, all_within, within_last, within_front}
use Rattle.fhir_fp_eval.proofs.evaluation.+evaluate.Goals as goal

pub values_where-returns-in_err-holds : goal.values_where-returns-in_err-holds
values_where-returns-in_err-holds t c =
    let p = err_from_is_err_and c.from_residual.result c.from_residual.ensures.1 in
    rw (p.1, p.2) (kept_fails (den (world_of c.args.env.now) (expression_of c.args.criteria.now)) c.args.values.now c.loop-value.value-index c.value-item.result (omega arith)
    c.value-item.is _ (plains_of c.loop-value.found.items) c.loop-value.invariant _ c.in_err-holds.ensures)

pub values_where-loop-value-preserved : goal.values_where-loop-value-preserved
values_where-loop-value-preserved t c =
    ap (λ (us : List Plain). in_front us (values_where (den (world_of c.args.env.now) (expression_of c.args.criteria.now)) (plains_of (drop (c.loop-value.value-index + 1) c.args.values.now))))
    c.in_ok-keep_if.ensures
    ∙ kept_goes (den (world_of c.args.env.now) (expression_of c.args.criteria.now)) c.args.values.now c.loop-value.value-index c.value-item.result (omega arith) c.value-item.is _
    (plains_of c.loop-value.found.items) c.loop-value.invariant c.in_ok-holds.holds c.in_ok-holds.ensures

pub values_where-returns : goal.values_where-returns
values_where-returns t c =
    kept_ends (den (world_of c.args.env.now) (expression_of c.args.criteria.now)) c.args.values.now c.loop-value.value-index _ (plains_of c.loop-value.found.items) (omega arith)
    c.loop-value.invariant

pub evaluate-loop-step-init : goal.evaluate-loop-step-init
evaluate-loop-step-init t c = record {
  exact = started (world_of c.args.env.now) (plain_of c.args.this) (expression_of c.args.expr.now) (steps_of c.in_ok-steps.steps.items) (plains_of c.new-values.result.items)
      c.in_ok-steps.ensures (ap plains_of c.new-values.ensures.items);
  within = all_within (expression_of c.args.expr.now) (steps_of c.in_ok-steps.steps.items) c.in_ok-steps.ensures;
}

pub evaluate-made_of-requires : goal.evaluate-made_of-requires
evaluate-made_of-requires t c =
    let h : size (expression_of c.in-Some.step.now) ≤ size (expression_of c.args.expr.now) =
    within_last (size (expression_of c.args.expr.now)) (steps_of c.pop.new.self.items) (expression_of c.in-Some.step.now)
    (rw (← steps_end c.pop.new.self.items c.in-Some.step, ← c.in-Some.ensures.items) c.loop-step.invariant.within) in
    omega (arith, h, c.decreases)

pub evaluate-returns-in_err-values : goal.evaluate-returns-in_err-values
evaluate-returns-in_err-values t c =
    let p = err_from_is_err_and c.from_residual-in_err-values.result c.from_residual-in_err-values.ensures.1 in
    rw (p.1, p.2) (climb_fails (world_of c.args.env.now) (plain_of c.args.this) (steps_of c.loop-step.steps.items) (steps_of c.pop.new.self.items) (expression_of c.in-Some.step.now)
    (plains_of c.loop-step.values.items) (plains_of c.deref.result.now) _ (ap steps_of c.in-Some.ensures.items ∙ steps_end c.pop.new.self.items c.in-Some.step)
    (ap plains_of c.deref.ensures.value) c.loop-step.invariant.exact _ c.in_err-values.ensures)

pub evaluate-loop-step-preserved : goal.evaluate-loop-step-preserved
evaluate-loop-step-preserved t c = record {
  exact = climb_goes (world_of c.args.env.now) (plain_of c.args.this) (steps_of c.loop-step.steps.items) (steps_of c.pop.new.self.items) (expression_of c.in-Some.step.now)
      (plains_of c.loop-step.values.items) (plains_of c.deref.result.now) _ (ap steps_of c.in-Some.ensures.items ∙ steps_end c.pop.new.self.items c.in-Some.step)
      (ap plains_of c.deref.ensures.value) c.loop-step.invariant.exact
      (plains_of c.in_ok-values.values.items) c.in_ok-values.ensures;
  within = within_front (size (expression_of c.args.expr.now)) (steps_of c.pop.new.self.items) (expression_of c.in-Some.step.now)
      (rw (← steps_end c.pop.new.self.items c.in-Some.step, ← c.in-Some.ensures.items) c.loop-step.invariant.within);
}
