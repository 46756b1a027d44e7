-- The words of an expression, and what each of them is (FHIRPath N1, Grammar).
use Rattle.std.specs.Prelude.{ℕ, Bool, true, false, Option, Some, None, if◌then◌else◌, codes, bytes_eq, ◌||◌}
use Rattle.fhir_fp_syntax.specs.declared.expr.Operator.{Operator}
use Rattle.fhir_fp_syntax.specs.declared.expr.Operator.TheVariants.{Index, Intersect, Union, Less, LessOrEqual, Greater, GreaterOrEqual, Equal, NotEqual, In, Contains, And, Or, Xor, Implies}
use Rattle.fhir_fp_syntax.specs.declared.expr.Function.{Function}
use Rattle.fhir_fp_syntax.specs.declared.expr.Function.TheVariants as functions
use Rattle.fhir_fp_syntax.specs.declared.expr.TypeTest.TheVariants as tests
use Rattle.fhir_fp_syntax.specs.declared.expr.Filter.TheVariants as filters
use Rattle.fhir_fp_syntax.specs.declared.token.Mark.{Mark}
use Rattle.fhir_fp_syntax.specs.declared.token.Mark.TheVariants as marks
use Rattle.fhir_fp_syntax.specs.declared.token.Given.{Given}
use Rattle.fhir_fp_syntax.specs.declared.token.Given.TheVariants as givens
use Rattle.fhir_fp_syntax.specs.declared.token.Next.{Next}
use Rattle.fhir_fp_syntax.specs.declared.token.Next.TheVariants as nexts
use Rattle.fhir_fp_syntax.specs.Expression.{Expression, nothing, boolean, number, text, this, resource, context, name, filtered, binary}
use Rattle.fhir_json.specs.Tree.{Text}
use Rattle.fhir_fp_syntax.specs.Answers.{◌>>=◌}
use Rattle.fhir_fp_syntax.specs.Strings.{text_in}

-- a token: a name, what stands between the quotes of a string, a number, or a sign or word that is none of these
pub data Word : Type 0 where
  named : Text → Word
  quoted : Text → Word
  counted : Text → Word
  marked : Mark → Word

-- what the word does behind an expression
abbrev pub next_of_mark : Mark → Next
next_of_mark marks.Open = nexts.Call
next_of_mark marks.Dot = nexts.Dot
next_of_mark marks.OpenBracket = nexts.Bracket
next_of_mark marks.Is = nexts.Typed tests.Is
next_of_mark marks.As = nexts.Typed tests.As
next_of_mark marks.Bar = nexts.Binary Union
next_of_mark marks.Less = nexts.Binary Less
next_of_mark marks.LessOrEqual = nexts.Binary LessOrEqual
next_of_mark marks.Greater = nexts.Binary Greater
next_of_mark marks.GreaterOrEqual = nexts.Binary GreaterOrEqual
next_of_mark marks.Equal = nexts.Binary Equal
next_of_mark marks.NotEqual = nexts.Binary NotEqual
next_of_mark marks.In = nexts.Binary In
next_of_mark marks.Contains = nexts.Binary Contains
next_of_mark marks.And = nexts.Binary And
next_of_mark marks.Or = nexts.Binary Or
next_of_mark marks.Xor = nexts.Binary Xor
next_of_mark marks.Implies = nexts.Binary Implies
next_of_mark m = nexts.Nothing

abbrev pub next_of : Word → Next
next_of (marked m) = next_of_mark m
next_of (named w) = nexts.Nothing
next_of (quoted w) = nexts.Nothing
next_of (counted w) = nexts.Nothing

-- How loosely an operator binds (FHIRPath N1, Operator Precedence). An index and `intersect` bind as a path does.
abbrev pub looseness_of_operator : Operator → ℕ
looseness_of_operator Index = 1
looseness_of_operator Intersect = 1
looseness_of_operator Union = 3
looseness_of_operator Less = 4
looseness_of_operator LessOrEqual = 4
looseness_of_operator Greater = 4
looseness_of_operator GreaterOrEqual = 4
looseness_of_operator Equal = 5
looseness_of_operator NotEqual = 5
looseness_of_operator In = 6
looseness_of_operator Contains = 6
looseness_of_operator And = 7
looseness_of_operator Or = 8
looseness_of_operator Xor = 8
looseness_of_operator Implies = 9

-- how loosely `implies` binds, the loosest
abbrev pub loosest : ℕ
loosest = 9

-- How loosely what follows an expression binds to it; what can't follow one binds looser than all.
abbrev pub looseness : Next → ℕ
looseness nexts.Call = 0
looseness nexts.Dot = 1
looseness nexts.Bracket = 1
looseness (nexts.Typed f) = 2
looseness (nexts.Binary op) = looseness_of_operator op
looseness nexts.Nothing = 10

-- The name that a word is. `as`, `contains`, `in` and `is` may stand where a name must (FHIRPath N1, Grammar: identifier).
abbrev pub name_of : Word → Option Text
name_of (named w) = Some w
name_of (quoted w) = None
name_of (counted w) = None
name_of (marked marks.As) = Some (codes "as")
name_of (marked marks.Contains) = Some (codes "contains")
name_of (marked marks.In) = Some (codes "in")
name_of (marked marks.Is) = Some (codes "is")
name_of (marked m) = None

-- a word that is an expression by itself
abbrev pub term_of_mark : Mark → Option Expression
term_of_mark marks.Braces = Some nothing
term_of_mark marks.True = Some (boolean true)
term_of_mark marks.False = Some (boolean false)
term_of_mark marks.This = Some this
term_of_mark marks.Resource = Some resource
term_of_mark marks.Context = Some context
term_of_mark marks.As = Some (name (codes "as"))
term_of_mark marks.Contains = Some (name (codes "contains"))
term_of_mark marks.In = Some (name (codes "in"))
term_of_mark marks.Is = Some (name (codes "is"))
term_of_mark m = None

abbrev pub term_of : Word → Option Expression
term_of (named w) = Some (name w)
term_of (quoted w) = text_in w >>= λ s. Some (text s)
term_of (counted w) = Some (number w)
term_of (marked m) = term_of_mark m

abbrev pub is_open : Word → Bool
is_open (marked marks.Open) = true
is_open t = false

abbrev pub is_close : Word → Bool
is_close (marked marks.Close) = true
is_close t = false

abbrev pub is_close_bracket : Word → Bool
is_close_bracket (marked marks.CloseBracket) = true
is_close_bracket t = false

abbrev pub is_dot : Word → Bool
is_dot (marked marks.Dot) = true
is_dot t = false

-- a type of FHIRPath's own, which is no type here unless `FHIR.` stands before it
unfoldable pub is_system_type : Text → Bool
is_system_type w =
    bytes_eq w (codes "String") || bytes_eq w (codes "Boolean") || bytes_eq w (codes "Integer") || bytes_eq w (codes "Decimal") || bytes_eq w (codes "Date")
    || bytes_eq w (codes "DateTime") || bytes_eq w (codes "Time")

-- a function without an argument, by its name
unfoldable pub function_of : Text → Option Function
function_of w =
    if bytes_eq w (codes "exists") then Some functions.Exists
    else (if bytes_eq w (codes "empty") then Some functions.Empty
    else (if bytes_eq w (codes "count") then Some functions.Count
    else (if bytes_eq w (codes "first") then Some functions.First
    else (if bytes_eq w (codes "children") then Some functions.Children
    else (if bytes_eq w (codes "descendants") then Some functions.Descendants
    else (if bytes_eq w (codes "not") then Some functions.Not
    else (if bytes_eq w (codes "hasValue") then Some functions.HasValue else None)))))))

-- a function with one
unfoldable pub given_of : Text → Option Given
given_of w =
    if bytes_eq w (codes "where") then Some givens.Where
    else (if bytes_eq w (codes "exists") then Some givens.Exists
    else (if bytes_eq w (codes "all") then Some givens.All
    else (if bytes_eq w (codes "intersect") then Some givens.Intersect
    else (if bytes_eq w (codes "ofType") then Some givens.OfType else None))))

-- the call of a function whose argument is an expression
abbrev pub with_argument : Given → Expression → Expression → Option Expression
with_argument givens.Where a c = Some (filtered filters.Where a c)
with_argument givens.Exists a c = Some (filtered filters.Exists a c)
with_argument givens.All a c = Some (filtered filters.All a c)
with_argument givens.Intersect a c = Some (binary Intersect a c)
with_argument givens.OfType a c = None
