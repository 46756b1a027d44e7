-- Which expressions have a result at each item, by their form alone. A fault comes where several items stand and one is wanted
-- (FHIRPath N1, section 4.5), and where an operator is given what it isn't defined for; here it can't.
use Rattle.std.specs.Prelude.{Bool, true, false, not, ◌&&◌, ◌||◌}
use Rattle.fhir_fp_syntax.specs.Expression.{Expression, nothing, boolean, number, text, this, resource, context, name, child, call, typed, filtered, binary}
use Rattle.fhir_fp_syntax.specs.declared.expr.Operator.{Operator}
use Rattle.fhir_fp_syntax.specs.declared.expr.Operator.TheVariants as operators
use Rattle.fhir_fp_syntax.specs.declared.expr.Function.{Function}
use Rattle.fhir_fp_syntax.specs.declared.expr.Function.TheVariants as functions
use Rattle.fhir_fp_syntax.specs.declared.expr.Filter.{Filter}
use Rattle.fhir_fp_syntax.specs.declared.expr.Filter.TheVariants as filters
use Rattle.fhir_fp_syntax.specs.declared.expr.TypeTest.{TypeTest}
use Rattle.fhir_fp_syntax.specs.declared.expr.TypeTest.TheVariants as tests

-- `and`, `or`, `xor` and `implies`, which take truths (section 6.5)
abbrev pub joins_truths : Operator → Bool
joins_truths operators.And = true
joins_truths operators.Or = true
joins_truths operators.Xor = true
joins_truths operators.Implies = true
joins_truths op = false

-- `=` and `!=`, which take any lists (section 6.1)
abbrev pub is_equality : Operator → Bool
is_equality operators.Equal = true
is_equality operators.NotEqual = true
is_equality op = false

-- `|` and `intersect`, which take any lists (sections 6.4 and 5.3)
abbrev pub joins_lists : Operator → Bool
joins_lists operators.Union = true
joins_lists operators.Intersect = true
joins_lists op = false

-- `children()`, `descendants()`, `first()` and `count()`, which have a result for any list
abbrev pub takes_lists : Function → Bool
takes_lists functions.Children = true
takes_lists functions.Descendants = true
takes_lists functions.First = true
takes_lists functions.Count = true
takes_lists f = false

-- `exists()`, `empty()` and `hasValue()`, which have a truth for any list
abbrev pub tests_lists : Function → Bool
tests_lists functions.Exists = true
tests_lists functions.Empty = true
tests_lists functions.HasValue = true
tests_lists f = false

abbrev pub is_negation : Function → Bool
is_negation functions.Not = true
is_negation f = false

abbrev pub is_where : Filter → Bool
is_where filters.Where = true
is_where f = false

abbrev pub is_of_type : TypeTest → Bool
is_of_type tests.OfType = true
is_of_type f = false

abbrev mutual
  -- It has a result at each item.
  pub is_total : Expression → Bool
  is_total nothing = true
  is_total (boolean b) = true
  is_total (number s) = true
  is_total (text s) = true
  is_total this = true
  is_total resource = true
  is_total context = true
  is_total (name n) = true
  is_total (child a n) = is_total a
  is_total (call f a) = takes_lists f && is_total a
  is_total (typed f a t) = is_of_type f && is_total a
  is_total (filtered f a c) = is_where f && (is_total a && is_total_truth c)
  is_total (binary op a b) = joins_lists op && (is_total a && is_total b)

  -- It has a truth at each item: true, false or none.
  pub is_total_truth : Expression → Bool
  is_total_truth (boolean b) = true
  is_total_truth (call f a) = (tests_lists f && is_total a) || (is_negation f && is_total_truth a)
  is_total_truth (filtered f a c) = not (is_where f) && (is_total a && is_total_truth c)
  is_total_truth (binary op a b) = (is_equality op && (is_total a && is_total b)) || (joins_truths op && (is_total_truth a && is_total_truth b))
  is_total_truth e = false
