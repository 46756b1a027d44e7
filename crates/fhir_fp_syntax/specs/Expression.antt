-- An expression of FHIRPath (N1, Appendix B), without where it lies in memory.
use Rattle.std.specs.Prelude.{ℕ, List, Bool, string_bytes}
use Rattle.fhir_fp_syntax.specs.declared.expr.Operator.{Operator}
use Rattle.fhir_fp_syntax.specs.declared.expr.Function.{Function}
use Rattle.fhir_fp_syntax.specs.declared.expr.Filter.{Filter}
use Rattle.fhir_fp_syntax.specs.declared.expr.TypeTest.{TypeTest}
use Rattle.fhir_fp_syntax.specs.declared.expr.Expr.{Expr}
use Rattle.fhir_fp_syntax.specs.declared.expr.Expr.TheOpen.{Expr-F}
use Rattle.fhir_fp_syntax.specs.declared.expr.Expr.TheFolds.{fold-Expr}

pub data Expression : Type 0 where
  -- `{}`, `true` and `false`, a number as it is written, and a string without its quotes and escapes
  nothing : Expression
  boolean : Bool → Expression
  number : (digits : List ℕ) → Expression
  text : List ℕ → Expression
  -- `$this`, `%resource` and `%context`
  this resource context : Expression
  -- a name at the start of a path, and one behind a dot
  name : List ℕ → Expression
  child : Expression → (name : List ℕ) → Expression
  call : Function → Expression → Expression
  typed : TypeTest → Expression → (type : List ℕ) → Expression
  filtered : Filter → Expression → (criteria : Expression) → Expression
  binary : Operator → Expression → Expression → Expression

abbrev pub expression_step : Expr-F Expression → Expression
expression_step Expr-F.Empty = nothing
expression_step (Expr-F.Boolean b) = boolean b
expression_step (Expr-F.Number s) = number (string_bytes s)
expression_step (Expr-F.Text s) = text (string_bytes s)
expression_step Expr-F.This = this
expression_step Expr-F.Resource = resource
expression_step Expr-F.Context = context
expression_step (Expr-F.Name s) = name (string_bytes s)
expression_step (Expr-F.Child e s) = child e.value (string_bytes s)
expression_step (Expr-F.Call f e) = call f e.value
expression_step (Expr-F.Typed f e s) = typed f e.value (string_bytes s)
expression_step (Expr-F.Filtered f a b) = filtered f a.value b.value
expression_step (Expr-F.Binary f a b) = binary f a.value b.value

abbrev pub expression_of : Expr → Expression
expression_of = fold-Expr Expression expression_step
