-- Which texts spell which words (FHIRPath N1, Grammar).
use Rattle.std.specs.Prelude.{◌≡◌, ℕ, ◌<◌, length, List, [], ◌∷◌, ◌++◌, Bool, true, false, not, ◌&&◌, ◌==◌, codes}
use Rattle.std.specs.List.{AllByRecursion}
use Rattle.std.specs.Char.{is_ascii_digit}
use Rattle.fhir_json.specs.Bytes.{backslash, dot, equals_sign, is_blank, slash}
use Rattle.fhir_json.specs.Tree.{Text}
use Rattle.fhir_fp_syntax.specs.declared.token.Mark.{Mark}
use Rattle.fhir_fp_syntax.specs.declared.token.Mark.TheVariants as marks
use Rattle.fhir_fp_syntax.specs.Characters.{apostrophe, asterisk, backquote, is_name_start, is_name_character, is_line_end, begins}
use Rattle.fhir_fp_syntax.specs.Expression.{Expression}
use Rattle.fhir_fp_syntax.specs.Words.{Word, named, quoted, counted, marked}
use Rattle.fhir_fp_syntax.specs.Grammar.{IsExpression}

abbrev pub spelling : Mark → Text
spelling marks.Open = codes "("
spelling marks.Close = codes ")"
spelling marks.OpenBracket = codes "["
spelling marks.CloseBracket = codes "]"
spelling marks.Dot = codes "."
spelling marks.Bar = codes "|"
spelling marks.Less = codes "<"
spelling marks.LessOrEqual = codes "<="
spelling marks.Greater = codes ">"
spelling marks.GreaterOrEqual = codes ">="
spelling marks.Equal = codes "="
spelling marks.NotEqual = codes "!="
spelling marks.Braces = codes "{}"
spelling marks.This = codes "$this"
spelling marks.Resource = codes "%resource"
spelling marks.Context = codes "%context"
spelling marks.And = codes "and"
spelling marks.Or = codes "or"
spelling marks.Xor = codes "xor"
spelling marks.Implies = codes "implies"
spelling marks.In = codes "in"
spelling marks.Contains = codes "contains"
spelling marks.Is = codes "is"
spelling marks.As = codes "as"
spelling marks.True = codes "true"
spelling marks.False = codes "false"
spelling marks.Div = codes "div"
spelling marks.Mod = codes "mod"

-- A byte that would go on with the mark, so that it can't follow it directly: a name's character behind a word, and
-- `=` behind `<` and `>`.
abbrev pub goes_on : Mark → ℕ → Bool
goes_on marks.Open b = false
goes_on marks.Close b = false
goes_on marks.OpenBracket b = false
goes_on marks.CloseBracket b = false
goes_on marks.Dot b = false
goes_on marks.Bar b = false
goes_on marks.Less b = b == equals_sign
goes_on marks.LessOrEqual b = false
goes_on marks.Greater b = b == equals_sign
goes_on marks.GreaterOrEqual b = false
goes_on marks.Equal b = false
goes_on marks.NotEqual b = false
goes_on marks.Braces b = false
goes_on m b = is_name_character b

-- each byte is of the kind
abbrev pub AllAre : (ℕ → Bool) → Text → Type 0
AllAre is s = AllByRecursion (λ b. is b ≡ true) s

abbrev pub is_no_backquote : ℕ → Bool
is_no_backquote b = not (b == backquote)

abbrev pub is_in_line : ℕ → Bool
is_in_line b = not (is_line_end b)

abbrev pub is_slash : ℕ → Bool
is_slash b = b == slash

-- a dot and a digit
abbrev pub begins_fraction : Text → Bool
begins_fraction [] = false
begins_fraction (b ∷ s) = (b == dot) && begins is_ascii_digit s

-- one digit or more
abbrev pub AreDigits : Text → Type 0
AreDigits s = (0 < length s) × AllAre is_ascii_digit s

-- A byte that stands as itself between the quotes of a string.
abbrev pub is_literal : ℕ → Bool
is_literal b = not (b == apostrophe) && not (b == backslash)

-- what may stand between the quotes of a string: no quote but behind a backslash
pub data IsLiteral : Text → Type 0 where
  empty : IsLiteral []
  plain : {b : ℕ} {v : Text} → is_literal b ≡ true → IsLiteral v → IsLiteral (b ∷ v)
  escaped : {a b : ℕ} {v : Text} → a ≡ backslash → IsLiteral v → IsLiteral (a ∷ b ∷ v)

-- The text s spells the word where rest follows it. No longer text would spell one there.
pub data IsToken : Word → Text → Text → Type 0 where
  -- a sign, or a word that is no name
  mark : {m : Mark} {s rest : Text} → s ≡ spelling m → begins (goes_on m) rest ≡ false → IsToken (marked m) s rest
  -- a name
  identifier : {s rest : Text} → begins is_name_start s ≡ true → AllAre is_name_character s → ((m : Mark) → ¬ spelling m ≡ s)
      → begins is_name_character rest ≡ false → IsToken (named s) s rest
  -- a name in backquotes
  delimited : {v s rest : Text} → AllAre is_no_backquote v → s ≡ backquote ∷ (v ++ backquote ∷ []) → IsToken (named v) s rest
  string : {v s rest : Text} → IsLiteral v → s ≡ apostrophe ∷ (v ++ apostrophe ∷ []) → IsToken (quoted v) s rest
  -- digits, and digits with a dot between them
  whole : {s rest : Text} → AreDigits s → begins is_ascii_digit rest ≡ false → begins_fraction rest ≡ false → IsToken (counted s) s rest
  decimal : (a b : Text) {s rest : Text} → AreDigits a → AreDigits b → s ≡ a ++ dot ∷ b → begins is_ascii_digit rest ≡ false → IsToken (counted s) s rest

-- what stands behind `/*`, up to and with the first `*/`
pub data IsComment : Text → Type 0 where
  closed : {s : Text} → s ≡ codes "*/" → IsComment s
  inside : {b : ℕ} {s : Text} → ((b == asterisk) && begins is_slash s) ≡ false → IsComment s → IsComment (b ∷ s)

-- The text spells the words, with blanks and comments before, between and behind them.
pub data IsSpelled : List Word → Text → Type 0 where
  ended : IsSpelled [] []
  blank : {b : ℕ} {s : Text} {ts : List Word} → is_blank b ≡ true → IsSpelled ts s → IsSpelled ts (b ∷ s)
  -- `//` to the end of its line
  line : (v rest : Text) {s : Text} {ts : List Word} → AllAre is_in_line v → begins is_in_line rest ≡ false → s ≡ slash ∷ slash ∷ (v ++ rest)
      → IsSpelled ts rest → IsSpelled ts s
  comment : (v rest : Text) {s : Text} {ts : List Word} → IsComment v → s ≡ slash ∷ asterisk ∷ (v ++ rest) → IsSpelled ts rest → IsSpelled ts s
  token : {t : Word} {v rest s : Text} {ts : List Word} → IsToken t v rest → s ≡ v ++ rest → IsSpelled ts rest → IsSpelled (t ∷ ts) s

-- The text is written for the expression: it spells some words, and those are the expression.
pub record IsWritten (e : Expression) (s : Text) : Type 0 where
  pub words : List Word
  pub spelled : IsSpelled words s
  pub expression : IsExpression e words
