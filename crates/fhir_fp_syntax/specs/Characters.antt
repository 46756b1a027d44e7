-- Characters of FHIRPath (N1, Grammar), by their bytes.
use Rattle.std.specs.Prelude.{ℕ, Bool, false, ◌||◌, ◌==◌, [], ◌∷◌}
use Rattle.std.specs.Char.{is_ascii_digit, is_ascii_alphabetic}
use Rattle.fhir_json.specs.Bytes.{carriage_return, line_feed}
use Rattle.fhir_json.specs.Tree.{Text}

abbrev pub exclamation_mark : ℕ
exclamation_mark = 33

abbrev pub dollar_sign : ℕ
dollar_sign = 36

abbrev pub percent_sign : ℕ
percent_sign = 37

abbrev pub apostrophe : ℕ
apostrophe = 39

abbrev pub open_parenthesis : ℕ
open_parenthesis = 40

abbrev pub close_parenthesis : ℕ
close_parenthesis = 41

abbrev pub asterisk : ℕ
asterisk = 42

abbrev pub less_than_sign : ℕ
less_than_sign = 60

abbrev pub greater_than_sign : ℕ
greater_than_sign = 62

abbrev pub underscore : ℕ
underscore = 95

abbrev pub backquote : ℕ
backquote = 96

-- what a name begins with, and what it goes on with
abbrev pub is_name_start : ℕ → Bool
is_name_start b = is_ascii_alphabetic b || (b == underscore)

abbrev pub is_name_character : ℕ → Bool
is_name_character b = is_name_start b || is_ascii_digit b

abbrev pub is_line_end : ℕ → Bool
is_line_end b = (b == line_feed) || (b == carriage_return)

-- the first byte is of the kind
abbrev pub begins : (ℕ → Bool) → Text → Bool
begins is [] = false
begins is (b ∷ s) = is b
