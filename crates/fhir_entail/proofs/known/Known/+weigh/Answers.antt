use Rattle.std.proofs.Common.{◌≡◌, sym, ap, subst, ◌∙◌}
use Rattle.fhir_fp_syntax.specs.Expression.{Expression, binary, expression_of}
use Rattle.fhir_fp_syntax.specs.declared.expr.Expr.{Expr}
use Rattle.fhir_entail.specs.Known.{Weighs}
use Rattle.fhir_entail.proofs.Unlike.{outer, outer_is}
use Rattle.fhir_entail.proofs.Knowing.{number_joined}
use Rattle.fhir_entail.proofs.known.Known.+weigh.Goals as goal

pub returns-then-joins_truths : goal.returns-then-joins_truths
returns-then-joins_truths t c =
    let k = c.args.self.now in
    let l = expression_of c.in-Binary.left.value in
    let r = expression_of c.in-Binary.right.value in
    let is : expression_of c.args.expression.now ≡ binary c.in-Binary.operator l r = outer_is c.args.expression.now ∙ ap outer c.in-Binary.is in
    let left : Weighs k l c.weigh-left.result = subst (λ (x : Expr). Weighs k (expression_of x) c.weigh-left.result) c.deref.ensures c.weigh-left.ensures in
    let right : Weighs k r c.weigh-right.result = subst (λ (x : Expr). Weighs k (expression_of x) c.weigh-right.result) c.deref-then-joins_truths.ensures c.weigh-right.ensures in
    subst (λ (e : Expression). Weighs k e c.join.result) (sym is)
    (c.join.ensures l r
    (number_joined k.numbers.shapes (expression_of c.args.expression.now) l r c.in-Binary.operator c.of_two-number.result
    c.weigh-left.result.number c.weigh-right.result.number c.of_two-number.ensures is left.number right.number)
    left right)
