-- Whether two expressions are the same: of one form, with the same names, literals and parts. Texts are compared byte by byte, so
-- `0.5` isn't `0.50`.
use Rattle.std.specs.Prelude.{Bool, true, false, not, ◌&&◌, nat_eq, ℕ}
use Rattle.std.specs.Str.{bytes_eq}
use Rattle.fhir_fp_syntax.specs.Expression.{Expression, nothing, boolean, number, text, this, resource, context, name, child, call, typed, filtered, binary}
use Rattle.fhir_fp_syntax.specs.declared.expr.Operator.{Operator}
use Rattle.fhir_fp_syntax.specs.declared.expr.Operator.TheVariants as operators
use Rattle.fhir_fp_syntax.specs.declared.expr.Function.{Function}
use Rattle.fhir_fp_syntax.specs.declared.expr.Function.TheVariants as functions
use Rattle.fhir_fp_syntax.specs.declared.expr.Filter.{Filter}
use Rattle.fhir_fp_syntax.specs.declared.expr.Filter.TheVariants as filters
use Rattle.fhir_fp_syntax.specs.declared.expr.TypeTest.{TypeTest}
use Rattle.fhir_fp_syntax.specs.declared.expr.TypeTest.TheVariants as tests

-- ---- a number for each operator, function, filter and type test, by which they are told apart

abbrev pub operator_number : Operator → ℕ
operator_number operators.Index = 0
operator_number operators.Intersect = 1
operator_number operators.Union = 2
operator_number operators.Less = 3
operator_number operators.LessOrEqual = 4
operator_number operators.Greater = 5
operator_number operators.GreaterOrEqual = 6
operator_number operators.Equal = 7
operator_number operators.NotEqual = 8
operator_number operators.In = 9
operator_number operators.Contains = 10
operator_number operators.And = 11
operator_number operators.Or = 12
operator_number operators.Xor = 13
operator_number operators.Implies = 14

abbrev pub function_number : Function → ℕ
function_number functions.Exists = 0
function_number functions.Empty = 1
function_number functions.Count = 2
function_number functions.First = 3
function_number functions.Children = 4
function_number functions.Descendants = 5
function_number functions.Not = 6
function_number functions.HasValue = 7

abbrev pub filter_number : Filter → ℕ
filter_number filters.Where = 0
filter_number filters.Exists = 1
filter_number filters.All = 2

abbrev pub test_number : TypeTest → ℕ
test_number tests.OfType = 0
test_number tests.Is = 1
test_number tests.As = 2

abbrev pub same_operator : Operator → Operator → Bool
same_operator f g = nat_eq (operator_number f) (operator_number g)

abbrev pub same_function : Function → Function → Bool
same_function f g = nat_eq (function_number f) (function_number g)

abbrev pub same_filter : Filter → Filter → Bool
same_filter f g = nat_eq (filter_number f) (filter_number g)

abbrev pub same_test : TypeTest → TypeTest → Bool
same_test f g = nat_eq (test_number f) (test_number g)

-- ---- expressions

abbrev pub same_boolean : Bool → Bool → Bool
same_boolean true b = b
same_boolean false b = not b

-- Two of different forms are not the same.
abbrev pub same_expression : Expression → Expression → Bool
same_expression nothing nothing = true
same_expression (boolean a) (boolean b) = same_boolean a b
same_expression (number s) (number t) = bytes_eq s t
same_expression (text s) (text t) = bytes_eq s t
same_expression this this = true
same_expression resource resource = true
same_expression context context = true
same_expression (name m) (name n) = bytes_eq m n
same_expression (child a m) (child b n) = bytes_eq m n && same_expression a b
same_expression (call f a) (call g b) = same_function f g && same_expression a b
same_expression (typed f a s) (typed g b t) = same_test f g && (bytes_eq s t && same_expression a b)
same_expression (filtered f a c) (filtered g b d) = same_filter f g && (same_expression a b && same_expression c d)
same_expression (binary f a c) (binary g b d) = same_operator f g && (same_expression a b && same_expression c d)
same_expression _ _ = false
