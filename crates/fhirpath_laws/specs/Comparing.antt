-- What the four operators of order give of two numbers.
use Rattle.std.specs.Prelude.{List, map, Bool, true, false, codes}
use Rattle.fhir_json.specs.Tree.{Text, string}
use Rattle.fhir_json.specs.Tree.{number as number_text}
use Rattle.fhir_instance.specs.Items.{Item, Kids, kid}
use Rattle.fhir_fp_syntax.specs.Expression.{Expression, binary}
use Rattle.fhir_fp_syntax.specs.declared.expr.Operator.{Operator}
use Rattle.fhir_fp_syntax.specs.declared.expr.Operator.TheVariants.{Less, LessOrEqual, Greater, GreaterOrEqual}
use Rattle.fhir_fp_eval.specs.Meaning.{Found}
use Rattle.fhir_fp_eval.specs.Example.{given_by, leaf, whole}

-- `<`, `<=`, `>` and `>=`
abbrev pub is_comparison : Operator → Bool
is_comparison Less = true
is_comparison LessOrEqual = true
is_comparison Greater = true
is_comparison GreaterOrEqual = true
is_comparison op = false

-- the first with each of the others, and each with each: in rows by the left
abbrev pub row : Operator → List Expression → Expression → List Found
row op es a = map (λ b. given_by (binary op a b)) es

abbrev pub table : Operator → List Expression → List (List Found)
table op es = map (row op es) es

-- ---- quantities

abbrev pub part : Text → Text → Kids → Kids
part name text ks = kid name (leaf (codes "string") (string text)) ks

-- so much, with these parts
abbrev pub amount_of : Text → Kids → Item
amount_of value parts = whole (codes "Quantity") (kid (codes "value") (leaf (codes "decimal") (number_text value)) parts)
