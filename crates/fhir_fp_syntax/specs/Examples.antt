-- Texts of FHIRPath, and the expressions that they are.
use Rattle.std.specs.Prelude.{[], ◌∷◌, true, codes}
use Rattle.fhir_json.specs.Tree.{Text}
use Rattle.fhir_fp_syntax.specs.declared.expr.Operator.TheVariants.{Index, Union, Less, Equal, Contains, And, Or, Implies}
use Rattle.fhir_fp_syntax.specs.declared.expr.Function.TheVariants as functions
use Rattle.fhir_fp_syntax.specs.declared.expr.Filter.TheVariants as filters
use Rattle.fhir_fp_syntax.specs.declared.expr.TypeTest.TheVariants as tests
use Rattle.fhir_fp_syntax.specs.Expression.{Expression, boolean, number, text, name, child, call, typed, filtered, binary}

abbrev pub a : Expression
a = name (codes "a")

abbrev pub b : Expression
b = name (codes "b")

abbrev pub c : Expression
c = name (codes "c")

-- each operator binds tighter than the next
abbrev pub ladder : Text
ladder = codes "a.b | c < 1 = true contains a and b or c implies a"

abbrev pub of_ladder : Expression
of_ladder =
    binary Implies (binary Or (binary And (binary Contains (binary Equal (binary Less (binary Union (child a (codes "b")) c) (number (codes "1"))) (boolean true)) a) b) c) a

abbrev pub implied : Expression
implied = binary Implies (binary Implies a b) c

abbrev pub or_patient : Expression
or_patient = binary Union a (typed tests.Is b (codes "Patient"))

abbrev pub of_where : Expression
of_where = call functions.Exists (filtered filters.Where a (binary Equal b (text (codes "c"))))

abbrev pub of_index : Expression
of_index = child (binary Index (child a (codes "b")) (number (codes "0"))) (codes "as")

-- U+1F600, in UTF-8
abbrev pub of_smiling : Expression
of_smiling = text (240 ∷ 159 ∷ 152 ∷ 128 ∷ [])
