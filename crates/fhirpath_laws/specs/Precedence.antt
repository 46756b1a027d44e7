-- The table of operators (FHIRPath N1, section 6.8, Operator Precedence), in which a row binds tighter than those below it.
use Rattle.std.specs.Prelude.{ℕ, Bool, true, false}
use Rattle.fhir_fp_syntax.specs.declared.expr.Operator.{Operator}
use Rattle.fhir_fp_syntax.specs.declared.expr.Operator.TheVariants.{Index, Intersect, Union, Less, LessOrEqual, Greater, GreaterOrEqual, Equal, NotEqual, In, Contains, And, Or, Xor, Implies}

-- an operator that stands between its operands. An index stands in brackets, and `intersect` is a function
abbrev pub is_infix : Operator → Bool
is_infix Index = false
is_infix Intersect = false
is_infix op = true

-- its row in the table
abbrev pub row_of : Operator → ℕ
row_of Intersect = 1
row_of Index = 2
row_of Union = 7
row_of Less = 8
row_of LessOrEqual = 8
row_of Greater = 8
row_of GreaterOrEqual = 8
row_of Equal = 9
row_of NotEqual = 9
row_of In = 10
row_of Contains = 10
row_of And = 11
row_of Or = 12
row_of Xor = 12
row_of Implies = 13

-- the row of `is` and `as`
abbrev pub row_of_type_tests : ℕ
row_of_type_tests = 6
