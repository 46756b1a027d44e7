-- What expressions that are true entail, by their form alone: each of them, each part of an `and`, and what `and`, `or` and
-- `implies` make of what is entailed.
use Rattle.std.specs.Prelude.{Bool, ◌&&◌, ◌||◌, List}
use Rattle.std.specs.List.{list_any}
use Rattle.fhir_fp_syntax.specs.Expression.{Expression, binary}
use Rattle.fhir_fp_syntax.specs.declared.expr.Operator.TheVariants.{And, Or, Implies}
use Rattle.fhir_entail.specs.Same.{same_expression}
use Rattle.fhir_entail.specs.Total.{is_total_truth}

-- the expression is the second, or a part of the `and` that the second is
abbrev pub is_part : Expression → Expression → Bool
is_part e (binary And a b) = same_expression (binary And a b) e || (is_part e a || is_part e b)
is_part e f = same_expression f e

-- one of them is the expression, or an `and` of which it is a part
abbrev pub is_listed : List Expression → Expression → Bool
is_listed known e = list_any (is_part e) known

-- An `or` and an `implies` are entailed by one side alone only where the other can't fault, since a fault isn't true.
abbrev pub entails : List Expression → Expression → Bool
entails known (binary And a b) = is_listed known (binary And a b) || (entails known a && entails known b)
entails known (binary Or a b) =
    is_listed known (binary Or a b) || ((entails known a && is_total_truth b) || (entails known b && is_total_truth a))
entails known (binary Implies a b) = is_listed known (binary Implies a b) || (entails known b && is_total_truth a)
entails known e = is_listed known e
