use Rattle.std.proofs.Common.{◌≡◌, sym, ap, ◌∙◌}
use Rattle.fhir_fp_syntax.specs.Expression.{binary, expression_of}
use Rattle.fhir_fp_syntax.specs.declared.expr.Operator.TheVariants.{And}
use Rattle.fhir_entail.proofs.Unlike.{outer, outer_is}
use Rattle.fhir_entail.proofs.Knowing.{one_conjunction, both_put}
use Rattle.fhir_entail.proofs.known.Known.+put.Goals as goal

pub returns-in_ok-put-in-Binary : goal.returns-in_ok-put-in-Binary
returns-in_ok-put-in-Binary t c =
    let l = expression_of c.deref.result.now in
    let r = expression_of c.deref-then-is_conjunction.result.now in
    let op : c.in-Binary.operator ≡ And = one_conjunction c.in-Binary.operator (sym c.is_conjunction.ensures ∙ c.if-is_conjunction.true) in
    let is : expression_of c.args.expression.now ≡ binary And l r =
    outer_is c.args.expression.now ∙ ap outer c.in-Binary.is
    ∙ (λ i. binary (op i) (expression_of (sym c.deref.ensures i)) (expression_of (sym c.deref-then-is_conjunction.ensures i))) in
    both_put c.put-then-is_conjunction.result c.args.self.now c.put.new.self c.put-then-is_conjunction.new.self
    (expression_of c.args.expression.now) l r is c.in_ok-put-in-Binary.ensures c.put-then-is_conjunction.ensures
