use Rattle.std.proofs.Common.{◌≡◌, Bool, true, false, ◌&&◌, List, map, Bor, Box, Global, sym, ap, ◌∙◌, arith}
use Rattle.fhir_fp_syntax.specs.declared.expr.Expr.{Expr, Binary}
use Rattle.fhir_fp_syntax.specs.declared.expr.Operator.{Operator}
use Rattle.fhir_fp_syntax.specs.declared.expr.Operator.TheVariants.{And}
use Rattle.fhir_fp_syntax.specs.Expression.{Expression, binary, expression_of}
use Rattle.fhir_entail.specs.Entailment.{entails}
use Rattle.fhir_entail.proofs.Unlike.{outer, outer_is}
use Rattle.fhir_entail.proofs.Listed.{and_alone}
use Rattle.fhir_entail.proofs.entailing.+entails.Goals as goal

as_and : (e : Expr) (f : Operator) (a b : Box Expr Global) → e ≡ Binary f a b → f ≡ And → expression_of e ≡ binary And (expression_of a.value) (expression_of b.value)
as_and e f a b is op = outer_is e ∙ ap outer is ∙ (λ i. binary (op i) (expression_of a.value) (expression_of b.value))

-- an `and` of these two is entailed where both are
seen : (known : List Expression) (e : Expr) (l r : Expression) → expression_of e ≡ binary And l r → (p q : Bool) → p ≡ entails known l → q ≡ entails known r
    → (p && q) ≡ entails known (expression_of e)
seen known e l r is p q left right = (λ i. left i && right i) ∙ and_alone l r known ∙ ap (entails known) (sym is)

pub returns-then-entails : goal.returns-then-entails
returns-then-entails t c =
    let known = map (λ (e : Bor Expr). expression_of e.now) c.args.known.now in
    let l = expression_of c.in-Binary.left.value in
    let r = expression_of c.in-Binary.right.value in
    let first : true ≡ entails known l = grind (arith, c.entails.ensures, c.if-entails.true, c.deref.ensures) in
    let second : c.entails-then-entails.result ≡ entails known r = grind (arith, c.entails-then-entails.ensures, c.deref-then-entails.ensures) in
    seen known c.args.expression.now l r (as_and c.args.expression.now c.in-Binary.operator c.in-Binary.left c.in-Binary.right c.in-Binary.is c.in-And.is) true c.entails-then-entails.result first second

pub returns-else-entails : goal.returns-else-entails
returns-else-entails t c =
    let known = map (λ (e : Bor Expr). expression_of e.now) c.args.known.now in
    let l = expression_of c.in-Binary.left.value in
    let r = expression_of c.in-Binary.right.value in
    let first : c.entails.result ≡ entails known l = grind (arith, c.entails.ensures, c.deref.ensures) in
    let none : c.entails.result ≡ false = c.if-entails.false in
    none ∙ ap (λ b. b && entails known r) (sym none ∙ first) ∙ and_alone l r known ∙ ap (entails known) (sym (as_and c.args.expression.now c.in-Binary.operator c.in-Binary.left c.in-Binary.right c.in-Binary.is c.in-And.is))
