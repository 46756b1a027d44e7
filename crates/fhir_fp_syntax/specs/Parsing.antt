-- From words to an expression, read from left to right. Each function gives a value and the words that follow it.
use Rattle.std.specs.Prelude.{ℕ, zero, suc, List, [], ◌∷◌, length, Bool, true, false, ◌==◌, if◌then◌else◌, Option, Some, None, bytes_eq, codes}
use Rattle.fhir_json.specs.Tree.{Text}
use Rattle.fhir_fp_syntax.specs.Answers.{◌>>=◌}
use Rattle.fhir_fp_syntax.specs.declared.expr.Operator.TheVariants.{Index}
use Rattle.fhir_fp_syntax.specs.declared.expr.TypeTest.{TypeTest}
use Rattle.fhir_fp_syntax.specs.declared.expr.TypeTest.TheVariants as tests
use Rattle.fhir_fp_syntax.specs.declared.token.Given.{Given}
use Rattle.fhir_fp_syntax.specs.declared.token.Given.TheVariants as givens
use Rattle.fhir_fp_syntax.specs.declared.token.Next.{Next}
use Rattle.fhir_fp_syntax.specs.declared.token.Next.TheVariants as nexts
use Rattle.fhir_fp_syntax.specs.Grammar.{max_nesting}
use Rattle.fhir_fp_syntax.specs.Expression.{Expression, this, child, call, typed, binary}
use Rattle.fhir_fp_syntax.specs.Words.{Word, next_of, looseness, name_of, term_of, is_open, is_close, is_close_bracket, is_dot, is_system_type, function_of, given_of, with_argument}

abbrev pub Parse : Type 0
Parse = List Word → Option (Expression × List Word)

-- what stands behind the first word, if that is of the kind
abbrev pub behind : (Word → Bool) → List Word → Option (List Word)
behind is [] = None
behind is (t ∷ ts) = if is t then Some ts else None

abbrev pub before : (Word → Bool) → Expression → Parse
before is e ts = behind is ts >>= λ us. Some (e, us)

abbrev pub Calls : Type 0
Calls = Expression → Text → Parse

-- the name behind `FHIR` and its dot
abbrev pub qualified_at : List Word → Option (Text × List Word)
qualified_at [] = None
qualified_at (t ∷ ts) = name_of t >>= λ w. Some (w, ts)

-- the type whose first word is the name w, behind which ts stand; us, if there's a dot
abbrev pub type_named : Text → List Word → Option (List Word) → Option (Text × List Word)
type_named w ts (Some us) = if bytes_eq w (codes "FHIR") then qualified_at us else None
type_named w ts None = if is_system_type w then None else Some (w, ts)

unfoldable pub type_at : List Word → Option (Text × List Word)
type_at [] = None
type_at (t ∷ ts) = name_of t >>= λ w. type_named w ts (behind is_dot ts)

abbrev pub type_argument_at : Expression → Parse
type_argument_at a ts = type_at ts >>= λ w. before is_close (typed tests.OfType a w.0) w.1

-- the argument of the function g on a, and its closing parenthesis
abbrev pub argument_at : Parse → Given → Expression → Parse
argument_at inner givens.OfType a ts = type_argument_at a ts
argument_at inner g a ts = inner ts >>= λ b. (with_argument g a b.0 >>= λ e. before is_close e b.1)

-- the call of the function w on a, from behind its opening parenthesis; inner reads what stands inside
unfoldable pub call_at : Parse → Calls
call_at inner a w [] = None
call_at inner a w (t ∷ ts) =
    if is_close t then function_of w >>= (λ f. Some (call f a, ts))
    else given_of w >>= (λ g. argument_at inner g a (t ∷ ts))

abbrev pub given_at : Option Expression → Parse
given_at (Some e) ts = Some (e, ts)
given_at None ts = None

-- behind the word t: the call of a function of that name, or else e
abbrev pub called_at : Calls → Expression → Word → Parse
called_at calls a t us = name_of t >>= λ w. calls a w us

abbrev pub call_or : Calls → Expression → Option Expression → Word → List Word → Option (List Word) → Option (Expression × List Word)
call_or calls a e t ts (Some us) = called_at calls a t us
call_or calls a e t ts None = given_at e ts

abbrev pub named_at : Calls → Expression → Option Expression → Word → Parse
named_at calls a e t ts = call_or calls a e t ts (behind is_open ts)

unfoldable pub primary_at : Parse → Calls → Parse
primary_at inner calls [] = None
primary_at inner calls (t ∷ ts) =
    if is_open t then inner ts >>= (λ x. before is_close x.0 x.1)
    else named_at calls this (term_of t) t ts

abbrev pub child_of : Expression → Word → Option Expression
child_of a t = name_of t >>= λ w. Some (child a w)

abbrev pub member_at : Calls → Expression → Parse
member_at calls a [] = None
member_at calls a (t ∷ ts) = named_at calls a (child_of a t) t ts

abbrev pub tested_at : TypeTest → Expression → Parse
tested_at f a ts = type_at ts >>= λ w. Some (typed f a w.0, w.1)

-- what the words make of a, from behind the first of them; part reads an operand
unfoldable pub tail_at : Parse → Calls → Parse → Expression → Next → Parse
tail_at inner calls part a nexts.Call ts = None
tail_at inner calls part a nexts.Dot ts = member_at calls a ts
tail_at inner calls part a nexts.Bracket ts = inner ts >>= λ i. before is_close_bracket (binary Index a i.0) i.1
tail_at inner calls part a (nexts.Typed f) ts = tested_at f a ts
tail_at inner calls part a (nexts.Binary op) ts = part ts >>= λ b. Some (binary op a b.0, b.1)
tail_at inner calls part a nexts.Nothing ts = None

-- as many tails as there are; the number bounds them
unfoldable pub more_at : ℕ → (Expression → Next → Parse) → ℕ → Expression → Parse
more_at n tail zero a ts = Some (a, ts)
more_at n tail (suc fuel) a [] = Some (a, [])
more_at n tail (suc fuel) a (t ∷ ts) =
    if looseness (next_of t) == n then tail a (next_of t) ts >>= (λ x. more_at n tail fuel x.0 x.1)
    else Some (a, t ∷ ts)

-- an expression whose operators bind no looser than the number
unfoldable pub level_at : Parse → Calls → ℕ → Parse
level_at inner calls zero ts = primary_at inner calls ts
level_at inner calls (suc n) ts =
    level_at inner calls n ts >>= λ x. more_at (suc n) (tail_at inner calls (level_at inner calls n)) (length x.1) x.0 x.1

-- what stands within brackets, of which so many may stand in one another
unfoldable pub calls_at : Bool → Parse → Calls
calls_at false inner a w ts = None
calls_at true inner a w ts = call_at inner a w ts

abbrev pub is_deep : ℕ → Bool
is_deep zero = false
is_deep (suc d) = true

unfoldable pub inner_at : ℕ → Parse
inner_at zero ts = None
inner_at (suc d) ts = level_at (inner_at d) (calls_at (is_deep d) (inner_at d)) 9 ts

-- an expression within d brackets, and the parts of one
abbrev pub at_level : ℕ → ℕ → Parse
at_level d n = level_at (inner_at d) (calls_at (is_deep d) (inner_at d)) n

-- nothing behind the expression
abbrev pub ended : Expression → List Word → Option Expression
ended e [] = Some e
ended e (t ∷ ts) = None

unfoldable pub expression_at : List Word → Option Expression
expression_at ts = at_level max_nesting 9 ts >>= λ x. ended x.0 x.1
