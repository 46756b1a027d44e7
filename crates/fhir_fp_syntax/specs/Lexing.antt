-- From a text to words, read from left to right.
use Rattle.std.specs.Prelude.{ℕ, zero, suc, ◌+◌, length, take, drop, List, [], ◌∷◌, ◌++◌, Bool, false, not, ◌&&◌, ◌||◌, ◌==◌, nat_lt, if◌then◌else◌, Option, Some, None}
use Rattle.std.specs.Prelude.{bytes_eq, option_map}
use Rattle.std.specs.List.{prefix_len}
use Rattle.std.specs.Char.{is_ascii_digit}
use Rattle.fhir_json.specs.Bytes.{backslash, bar, close_brace, close_bracket, dot, equals_sign, is_blank, open_brace, open_bracket, slash}
use Rattle.fhir_json.specs.Tree.{Text}
use Rattle.fhir_fp_syntax.specs.declared.token.Mark.{Mark}
use Rattle.fhir_fp_syntax.specs.declared.token.Mark.TheVariants as marks
use Rattle.fhir_fp_syntax.specs.Answers.{◌>>=◌}
use Rattle.fhir_fp_syntax.specs.Characters.{apostrophe, asterisk, backquote, dollar_sign, percent_sign, exclamation_mark, open_parenthesis, close_parenthesis, less_than_sign}
use Rattle.fhir_fp_syntax.specs.Characters.{greater_than_sign, is_name_start, is_name_character, begins}
use Rattle.fhir_fp_syntax.specs.Words.{Word, named, quoted, counted, marked}
use Rattle.fhir_fp_syntax.specs.Grammar.{max_words}
use Rattle.fhir_fp_syntax.specs.Tokens.{spelling, is_no_backquote, is_in_line, is_slash}

-- ---- words

-- the mark among these that is spelled so
abbrev pub mark_among : List Mark → Text → Option Mark
mark_among [] s = None
mark_among (m ∷ ms) s = if bytes_eq s (spelling m) then Some m else mark_among ms s

-- the marks of letters
abbrev pub word_marks : List Mark
word_marks =
    (marks.And ∷ marks.Or ∷ marks.Xor ∷ marks.Implies ∷ marks.In ∷ marks.Contains ∷ marks.Is ∷ marks.As ∷ marks.True ∷ marks.False ∷ marks.Div ∷ marks.Mod
    ∷ marks.This ∷ marks.Resource ∷ marks.Context ∷ [])

unfoldable pub mark_named : Text → Option Mark
mark_named s = mark_among word_marks s

abbrev pub word_or_name : Text → Option Mark → Word
word_or_name s (Some m) = marked m
word_or_name s None = named s

abbrev pub word_named : Text → Word
word_named s = word_or_name s (mark_named s)

-- the first byte, and the characters of a name behind it
abbrev pub front_len : Text → ℕ
front_len s = suc (prefix_len is_name_character (drop 1 s))

unfoldable pub name_at : Text → Word × Text
name_at s = (word_named (take (front_len s) s), drop (front_len s) s)

unfoldable pub special_at : Text → Option (Word × Text)
special_at s = mark_named (take (front_len s) s) >>= λ m. Some (marked m, drop (front_len s) s)

-- ---- numbers

abbrev pub fraction_len : Text → ℕ
fraction_len [] = 0
fraction_len (b ∷ s) = if (b == dot) && begins is_ascii_digit s then suc (prefix_len is_ascii_digit s) else 0

abbrev pub number_len : Text → ℕ
number_len s = let n = prefix_len is_ascii_digit s in n + fraction_len (drop n s)

unfoldable pub number_at : Text → Word × Text
number_at s = (counted (take (number_len s) s), drop (number_len s) s)

-- ---- between quotes, from behind the first of them

unfoldable pub delimited_at : Text → Option (Word × Text)
delimited_at s = let n = prefix_len is_no_backquote s in if nat_lt n (length s) then Some (named (take n s), drop (suc n) s) else None

-- how far the next quote is, which no backslash escapes
abbrev pub literal_len : (is_escaped : Bool) → Text → Option ℕ
literal_len is_escaped [] = None
literal_len is_escaped (b ∷ s) =
    if not is_escaped && (b == apostrophe) then Some 0 else option_map suc (literal_len (not is_escaped && (b == backslash)) s)

unfoldable pub string_at : Text → Option (Word × Text)
string_at s = literal_len false s >>= λ n. Some (quoted (take n s), drop (suc n) s)

-- ---- signs

abbrev pub single_sign : ℕ → Option Mark
single_sign b =
    if b == open_parenthesis then Some marks.Open
    else (if b == close_parenthesis then Some marks.Close
    else (if b == open_bracket then Some marks.OpenBracket
    else (if b == close_bracket then Some marks.CloseBracket
    else (if b == dot then Some marks.Dot
    else (if b == bar then Some marks.Bar
    else (if b == less_than_sign then Some marks.Less
    else (if b == greater_than_sign then Some marks.Greater
    else (if b == equals_sign then Some marks.Equal else None))))))))

abbrev pub double_sign : ℕ → ℕ → Option Mark
double_sign a b =
    if a == less_than_sign then (if b == equals_sign then Some marks.LessOrEqual else None)
    else (if a == greater_than_sign then (if b == equals_sign then Some marks.GreaterOrEqual else None)
    else (if a == exclamation_mark then (if b == equals_sign then Some marks.NotEqual else None)
    else (if a == open_brace then (if b == close_brace then Some marks.Braces else None) else None)))

abbrev pub double_sign_at : Text → Option Mark
double_sign_at [] = None
double_sign_at (a ∷ []) = None
double_sign_at (a ∷ b ∷ s) = double_sign a b

abbrev pub double_or_single : Option Mark → ℕ → ℕ → Text → Option (Word × Text)
double_or_single (Some m) a b s = Some (marked m, s)
double_or_single None a b s = single_sign a >>= λ m. Some (marked m, b ∷ s)

unfoldable pub sign_at : Text → Option (Word × Text)
sign_at [] = None
sign_at (a ∷ []) = single_sign a >>= λ m. Some (marked m, [])
sign_at (a ∷ b ∷ s) = double_or_single (double_sign a b) a b s

-- ---- tokens, and what stands between them

unfoldable pub token_at : Text → Option (Word × Text)
token_at [] = None
token_at (b ∷ s) =
    if is_name_start b then Some (name_at (b ∷ s))
    else (if (b == dollar_sign) || (b == percent_sign) then special_at (b ∷ s)
    else (if is_ascii_digit b then Some (number_at (b ∷ s))
    else (if b == backquote then delimited_at s else (if b == apostrophe then string_at s else sign_at (b ∷ s)))))

abbrev pub behind_line : Text → Text
behind_line s = drop (prefix_len is_in_line s) s

-- from behind `/*`
abbrev pub behind_asterisk : Text → Option Text
behind_asterisk [] = None
behind_asterisk (b ∷ s) = if (b == asterisk) && begins is_slash s then Some (drop 1 s) else behind_asterisk s

-- from behind a slash
unfoldable pub behind_comment : Text → Option Text
behind_comment [] = None
behind_comment (b ∷ s) = if b == slash then Some (behind_line s) else (if b == asterisk then behind_asterisk s else None)

-- the next word, or none behind a blank or a comment
unfoldable pub piece_at : Text → Option (Option Word × Text)
piece_at [] = None
piece_at (b ∷ s) =
    if is_blank b then Some (None, s)
    else (if b == slash then behind_comment s >>= (λ rest. Some (None, rest))
    else token_at (b ∷ s) >>= (λ t. Some (Some t.0, t.1)))

abbrev pub words_of_piece : Option Word → List Word
words_of_piece None = []
words_of_piece (Some t) = t ∷ []

-- the words; the number bounds the bytes
unfoldable pub words_at : ℕ → Text → Option (List Word)
words_at zero s = None
words_at (suc n) [] = Some []
words_at (suc n) (b ∷ s) = piece_at (b ∷ s) >>= λ p. (words_at n p.1 >>= λ ts. Some (words_of_piece p.0 ++ ts))

unfoldable pub words_in : Text → Option (List Word)
words_in s = words_at (suc (length s)) s

-- words within the limit
abbrev pub unless_many : List Word → Option (List Word)
unless_many ts = if nat_lt max_words (length ts) then None else Some ts

abbrev pub few_words_in : Text → Option (List Word)
few_words_in s = words_in s >>= unless_many

-- a word more, within the limit
abbrev pub with_piece : List Word → Option Word → Option (List Word)
with_piece ts None = Some ts
with_piece ts (Some t) = if nat_lt (length ts) max_words then Some (ts ++ t ∷ []) else None
