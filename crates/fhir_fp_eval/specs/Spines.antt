-- Words for private contracts alone: an expression, step by step along its first operands.
use Rattle.std.specs.Prelude.{List, [], ◌∷◌, map, Option, Some, None, Ok}
use Rattle.std.specs.Borrow.{Bor}
use Rattle.fhir_fp_syntax.specs.declared.expr.Expr.{Expr}
use Rattle.fhir_fp_syntax.specs.Expression.{Expression, child, call, typed, filtered, binary, expression_of}
use Rattle.fhir_fp_values.specs.Values.{Plain}
use Rattle.fhir_fp_eval.specs.Worlds.{World}
use Rattle.fhir_fp_eval.specs.Meaning.{◌>>=◌, Found, children_of, function_result, type_test_result, operator_result, values_where, filtered_by, den}

-- the first operand
abbrev pub base_of : Expression → Option Expression
base_of (child a n) = Some a
base_of (call f a) = Some a
base_of (typed f a t) = Some a
base_of (filtered f a c) = Some a
base_of (binary op a b) = Some a
base_of e = None

-- the expression, its first operand, the first operand of that, and so on
abbrev pub spine : Expression → List Expression
spine (child a n) = child a n ∷ spine a
spine (call f a) = call f a ∷ spine a
spine (typed f a t) = typed f a t ∷ spine a
spine (filtered f a c) = filtered f a c ∷ spine a
spine (binary op a b) = binary op a b ∷ spine a
spine e = e ∷ []

-- what the expression makes of its first operand's values; without a first operand, what it gives
abbrev pub made_of : World → Plain → Expression → List Plain → Found
made_of w x (child a n) vs = Ok (children_of n vs)
made_of w x (call f a) vs = function_result f vs
made_of w x (typed f a t) vs = type_test_result w.schema f t vs
made_of w x (filtered f a c) vs = values_where (den w c) vs >>= λ ws. Ok (filtered_by f vs ws)
made_of w x (binary op a b) vs = den w b x >>= λ ws. operator_result w.schema op vs ws
made_of w x e vs = den w e x

abbrev pub steps_of : List (Bor Expr) → List Expression
steps_of es = map (λ e. expression_of e.now) es
