-- What a user vouches for by a file of texts.
use Rattle.std.specs.Prelude.{◌≡◌, ℕ, List, [], ◌∷◌, ◌++◌, map, filter, Bool, false, not, Option, None, Some, codes}
use Rattle.std.specs.Fmt.{decimal}
use Rattle.std.specs.List.{flat_map, list_any}
use Rattle.std.specs.Str.{bytes_eq}
use Rattle.fhir_json.specs.Tree.{Text}
use Rattle.fhir_vouching.specs.Given.{given_lines}
use Rattle.fhir_lines.specs.Lines.{escaped}

-- the text of a line, if it has one
abbrev pub text_given : Option Text → List Text
text_given None = []
text_given (Some text) = text ∷ []

-- the texts that a file gives
abbrev pub texts_given : Text → List Text
texts_given bytes = flat_map (λ l. text_given l.1) (given_lines bytes)

-- the same texts are among both
abbrev pub AreSame : List Text → List Text → Type 0
AreSame xs ys = (t : Text) → list_any (bytes_eq t) xs ≡ list_any (bytes_eq t) ys

-- a line gives one of these texts
abbrev pub is_known : List Text → Option Text → Bool
is_known texts None = false
is_known texts (Some text) = list_any (bytes_eq text) texts

-- the numbers of the lines that give none of these texts
abbrev pub unknown_lines : List Text → List (ℕ × Option Text) → List ℕ
unknown_lines texts ls = map (λ l. l.0) (filter (λ l. not (is_known texts l.1)) ls)

-- what is told of such a line of the file that is shown by that name
abbrev pub note : Text → ℕ → Text
note name number = name ++ codes ":" ++ decimal number ++ codes ": unread lists no such text\n"

-- the same of each, in order, with the control characters of the file's name escaped; the bytes are the file's, and the texts those that the
-- definitions carry
abbrev pub notes : Text → List Text → Text → Text
notes name texts bytes = flat_map (note (escaped name)) (unknown_lines texts (given_lines bytes))
