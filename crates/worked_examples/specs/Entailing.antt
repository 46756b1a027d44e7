-- Small expressions, over two names.
use Rattle.std.specs.Prelude.{Bool, List, [], ◌∷◌, codes}
use Rattle.fhir_fp_syntax.specs.Expression.{Expression, boolean, this, name, child, call, typed, filtered, binary}
use Rattle.fhir_fp_syntax.specs.Expression as expressions
use Rattle.fhir_fp_syntax.specs.declared.expr.Operator.{Operator}
use Rattle.fhir_fp_syntax.specs.declared.expr.Operator.TheVariants.{Greater}
use Rattle.fhir_fp_syntax.specs.declared.expr.Function.TheVariants.{Exists, Count}
use Rattle.fhir_entail.specs.Entailment.{entails}

-- `a` and `b`, and `a.exists()` and `b.exists()`
abbrev pub a : Expression
a = name (codes "a")

abbrev pub b : Expression
b = name (codes "b")

abbrev pub has_a : Expression
has_a = call Exists a

abbrev pub has_b : Expression
has_b = call Exists b

-- `b > 1`, which faults where there are several
abbrev pub large : Expression
large = binary Greater b (expressions.number (codes "1"))

-- `b.count() > 1`
abbrev pub many : Expression
many = binary Greater (call Count b) (expressions.number (codes "1"))

-- whether one expression entails another
abbrev pub gives : Expression → Expression → Bool
gives known e = entails (known ∷ []) e
