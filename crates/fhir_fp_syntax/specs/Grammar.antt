-- Which words are which expression (FHIRPath N1, Grammar). What binds how loosely is `looseness` of Words.antt.
use Rattle.std.specs.Prelude.{◌≡◌, ℕ, suc, ◌<◌, ◌≤◌, length, List, [], ◌∷◌, ◌++◌, Some, false, codes}
use Rattle.fhir_json.specs.Tree.{Text}
use Rattle.fhir_fp_syntax.specs.declared.expr.Operator.{Operator}
use Rattle.fhir_fp_syntax.specs.declared.expr.Operator.TheVariants.{Index}
use Rattle.fhir_fp_syntax.specs.declared.expr.Function.{Function}
use Rattle.fhir_fp_syntax.specs.declared.expr.TypeTest.{TypeTest}
use Rattle.fhir_fp_syntax.specs.declared.expr.TypeTest.TheVariants as tests
use Rattle.fhir_fp_syntax.specs.declared.token.Mark.TheVariants as marks
use Rattle.fhir_fp_syntax.specs.declared.token.Given.{Given}
use Rattle.fhir_fp_syntax.specs.declared.token.Given.TheVariants as givens
use Rattle.fhir_fp_syntax.specs.declared.token.Next.TheVariants as nexts
use Rattle.fhir_fp_syntax.specs.Expression.{Expression, this, child, call, typed, binary}
use Rattle.fhir_fp_syntax.specs.Words.{Word, marked, next_of, looseness, loosest, name_of, term_of, function_of, given_of, is_system_type, with_argument}

abbrev pub opening : Word
opening = marked marks.Open

abbrev pub closing : Word
closing = marked marks.Close

-- The words are the type w: its name, or `FHIR`, a dot and its name. A type of the System namespace is none here.
pub data IsType : Text → List Word → Type 0 where
  simple : {t : Word} {w : Text} {ts : List Word} → name_of t ≡ Some w → is_system_type w ≡ false → ts ≡ t ∷ [] → IsType w ts
  qualified : {t u : Word} {w : Text} {ts : List Word} → name_of t ≡ Some (codes "FHIR") → name_of u ≡ Some w
      → ts ≡ t ∷ marked marks.Dot ∷ u ∷ [] → IsType w ts

mutual
  -- The words are the expression e, with no more than d parentheses and brackets open in one another, and with no operator
  -- outside of them that binds looser than n.
  pub data Is : ℕ → ℕ → Expression → List Word → Type 0 where
    -- a literal, a name, `$this`, `%resource` or `%context`
    term : {d n : ℕ} {t : Word} {e : Expression} {ts : List Word} → term_of t ≡ Some e → ts ≡ t ∷ [] → Is d n e ts
    -- an expression in parentheses
    inside : {d c n : ℕ} {e : Expression} {ts us : List Word} → d ≡ suc c → Is c loosest e us → ts ≡ opening ∷ (us ++ closing ∷ [])
        → Is d n e ts
    -- a function at the start of a path, which is called on `$this`
    begun : {d n : ℕ} {e : Expression} {ts : List Word} → IsCall d this e ts → Is d n e ts
    -- An expression and what stands behind it, of which the first word binds no tighter than all in that expression: so all
    -- group to the left.
    grown : {d n m : ℕ} {a e : Expression} {xs ys ts : List Word} → m < n → Is d (suc m) a xs → IsTail d m a e ys → ts ≡ xs ++ ys
        → Is d n e ts

  -- The words, behind the expression a, make e of it. The first of them binds as loosely as suc m.
  pub data IsTail : ℕ → ℕ → Expression → Expression → List Word → Type 0 where
    -- an operator, and an operand that binds tighter
    operated : {d m : ℕ} {a b e : Expression} {op : Operator} {t : Word} {ys ts : List Word} → next_of t ≡ nexts.Binary op
        → looseness (next_of t) ≡ suc m → Is d m b ys → ts ≡ t ∷ ys → e ≡ binary op a b → IsTail d m a e ts
    -- `is` or `as`, and a type
    tested : {d m : ℕ} {a e : Expression} {f : TypeTest} {t : Word} {w : Text} {us ts : List Word} → next_of t ≡ nexts.Typed f → m ≡ 1
        → IsType w us → ts ≡ t ∷ us → e ≡ typed f a w → IsTail d m a e ts
    -- a dot and a name
    member : {d m : ℕ} {a e : Expression} {t : Word} {w : Text} {ts : List Word} → m ≡ 0 → name_of t ≡ Some w
        → ts ≡ marked marks.Dot ∷ t ∷ [] → e ≡ child a w → IsTail d m a e ts
    -- a dot and a function
    called : {d m : ℕ} {a e : Expression} {us ts : List Word} → m ≡ 0 → IsCall d a e us → ts ≡ marked marks.Dot ∷ us → IsTail d m a e ts
    -- an index in brackets
    indexed : {d c m : ℕ} {a i e : Expression} {us ts : List Word} → m ≡ 0 → d ≡ suc c → Is c loosest i us
        → ts ≡ marked marks.OpenBracket ∷ (us ++ marked marks.CloseBracket ∷ []) → e ≡ binary Index a i → IsTail d m a e ts

  -- The words are a function's name with its argument or none in parentheses, and e is its call on a.
  pub data IsCall : ℕ → Expression → Expression → List Word → Type 0 where
    -- no argument
    plain : {d c : ℕ} {a e : Expression} {f : Function} {t : Word} {w : Text} {ts : List Word} → d ≡ suc c → name_of t ≡ Some w
        → function_of w ≡ Some f → ts ≡ t ∷ opening ∷ closing ∷ [] → e ≡ call f a → IsCall d a e ts
    -- an expression
    given : {d c : ℕ} {a b e : Expression} {g : Given} {t : Word} {w : Text} {us ts : List Word} → d ≡ suc c → name_of t ≡ Some w
        → given_of w ≡ Some g → Is c loosest b us → with_argument g a b ≡ Some e → ts ≡ t ∷ opening ∷ (us ++ closing ∷ []) → IsCall d a e ts
    -- a type
    of_type : {d c : ℕ} {a e : Expression} {t : Word} {w v : Text} {us ts : List Word} → d ≡ suc c → name_of t ≡ Some w
        → given_of w ≡ Some givens.OfType → IsType v us → e ≡ typed tests.OfType a v → ts ≡ t ∷ opening ∷ (us ++ closing ∷ [])
        → IsCall d a e ts

-- how many parentheses and brackets may be open in one another, those of functions counted, and how many words there may be
abbrev pub max_nesting : ℕ
max_nesting = 64

abbrev pub max_words : ℕ
max_words = 4096

-- The words are the expression, within the limits.
pub record IsExpression (e : Expression) (ts : List Word) : Type 0 where
  pub few : length ts ≤ max_words
  pub spelled : Is max_nesting loosest e ts
