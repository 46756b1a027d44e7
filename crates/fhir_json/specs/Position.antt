-- A place in a text, by its line and its column.
use Rattle.std.specs.Prelude.{ℕ, ◌+◌, List, take, drop, Bool, not, ◌||◌, ◌==◌, nat_lt, nat_le, nat_eq, if◌then◌else◌, count_by, reverse}
use Rattle.std.specs.List.{starts_with, take_while}
use Rattle.fhir_json.specs.declared.position.Position.{Position}
use Rattle.fhir_json.specs.Bytes.{line_feed}
use Rattle.fhir_json.specs.Grammar.{mark}

-- the first byte of a character of UTF-8: its top bits are not 10
abbrev pub begins_character : ℕ → Bool
begins_character b = nat_lt b 128 || nat_le 192 b

-- the first bytes, and of a byte order mark at the front of the text nothing
abbrev pub without_mark : List ℕ → ℕ → List ℕ
without_mark bytes before = if starts_with nat_eq bytes mark then drop 3 (take before bytes) else take before bytes

-- the line feeds
abbrev pub line_feeds : List ℕ → ℕ
line_feeds bs = count_by (λ b. b == line_feed) bs

-- the characters behind the last line feed; they are found from the end
abbrev pub last_characters : List ℕ → ℕ
last_characters bs = count_by begins_character (take_while (λ b. not (b == line_feed)) (reverse bs))

-- the position of the byte behind the first `before` bytes
abbrev pub position_at : List ℕ → ℕ → Position
position_at bytes before = record { line = line_feeds (without_mark bytes before) + 1; column = last_characters (without_mark bytes before) + 1 }
