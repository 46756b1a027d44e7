use Rattle.std.proofs.Common.{◌∙◌, rules, tests}
use Rattle.std.specs.Borrow.{Bor}
use Rattle.std.proofs.lemmas.Iterator.{YieldsList-from_slice}
use Rattle.std.proofs.lemmas.Iterator.Search.{any_from_yields_List}
use Rattle.fhir_fp_syntax.specs.declared.expr.Expr.{Expr}
use Rattle.fhir_fp_syntax.specs.Expression.{expression_of}
use Rattle.fhir_entail.specs.Entailment.{is_part}
use Rattle.fhir_entail.proofs.Listed.{listed_seen}
use Rattle.fhir_entail.proofs.entailing.is_listed.Goals as goal

pub returns : goal.returns
returns c =
    any_from_yields_List (λ (k : Bor Expr). is_part (expression_of c.args.expression.now) (expression_of k.now)) _ _ _ c.any.ensures.ran
    (YieldsList-from_slice c.args.known.now cc) (λ x b q k. search (rules, tests))
    ∙ listed_seen (expression_of c.args.expression.now) c.args.known.now
