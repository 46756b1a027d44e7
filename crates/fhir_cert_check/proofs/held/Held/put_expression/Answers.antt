use Rattle.std.proofs.Common.{◌∷◌, [], ◌++◌, List, Option, sym, subst}
use Rattle.std.specs.Borrow.{Bor}
use Rattle.std.specs.Option.{option_map_or}
use Rattle.std.specs.Prelude.{OnOk}
use Rattle.fhir_fp_syntax.specs.declared.expr.Expr.{Expr}
use Rattle.fhir_fp_syntax.specs.Expression.{Expression, expression_of}
use Rattle.fhir_entail.specs.Known.{Knows}
use Rattle.fhir_cert_check.proofs.held.Held.put_expression.Goals as goal

pub returns-in-Some-clause-known : goal.returns-in-Some-clause-known
returns-in-Some-clause-known c =
    subst (λ (o : Option (Bor Expr)). OnOk c.put.result ((known : List Expression)
    → Knows c.args.self.now.known known → Knows c.put.new.self (known ++ option_map_or (λ e. expression_of e.now ∷ []) o [])))
    (sym c.in-Some.is) c.put.ensures
