-- What a file gives, line by line.
use Rattle.std.specs.Prelude.{ℕ, List, [], ◌∷◌, ◌++◌, map, Bool, true, not, ◌==◌, Option, None, Result, Ok, Err, string_bytes}
use Rattle.std.specs.Option.{option_map}
use Rattle.std.specs.List.{filter, enumerate_from, list_any}
use Rattle.std.specs.Str.Lines.{lines}
use Rattle.fhir_json.specs.Bytes.{line_feed, quote}
use Rattle.fhir_json.specs.Tree.{Text, Tree}
use Rattle.fhir_json.specs.Fields.{as_text}
use Rattle.fhir_json.specs.Reading.{text_behind_mark, tree_at}
use Rattle.fhir_json.specs.declared.refusal.Refusal.{Refusal}
use Rattle.fhir_vouching.specs.declared.given.GivenLine.{GivenLine}

-- `#`
abbrev pub number_sign : ℕ
number_sign = 35

-- some byte is a line feed
abbrev pub has_feed : Text → Bool
has_feed bs = list_any (λ b. b == line_feed) bs

-- a line that gives nothing: it is empty, or begins with `#`
abbrev pub is_comment : Text → Bool
is_comment [] = true
is_comment (b ∷ bs) = b == number_sign

-- the string that is read, if one is
abbrev pub string_read : Result Tree Refusal → Option Text
string_read (Ok t) = as_text t
string_read (Err refusal) = None

-- the string that a line is the inside of: the reader is given the line between quotes
abbrev pub line_text : Text → Option Text
line_text line = string_read (tree_at (quote ∷ (line ++ quote ∷ [])))

-- what lines give, of which the first has this number: each that is no comment gives its number, and its text if it has one
abbrev pub given_from : ℕ → List Text → List (ℕ × Option Text)
given_from number ls = map (λ l. (l.0, line_text l.1)) (filter (λ l. not (is_comment l.1)) (enumerate_from number ls))

-- what a file gives; a byte order mark at its front is passed over
abbrev pub given_lines : Text → List (ℕ × Option Text)
given_lines bytes = given_from 1 (lines (text_behind_mark bytes))

-- a line that was found, as its number and its text
abbrev pub line_seen : GivenLine → ℕ × Option Text
line_seen line = (line.number, option_map string_bytes line.text)
