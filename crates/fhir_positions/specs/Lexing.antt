-- The values that are found in a text, byte by byte.
use Rattle.std.specs.Prelude.{◌++◌, ◌∷◌, [], ◌==◌, ◌||◌, ℕ, List, Option, None, Some, if◌then◌else◌}
use Rattle.std.specs.Option.{option_to_list}
use Rattle.fhir_json.specs.Bytes.{backslash, close_brace, close_bracket, colon, comma, is_blank, open_brace, open_bracket, quote}
use Rattle.fhir_json.specs.declared.position.Position.{Position}
use Rattle.fhir_positions.specs.declared.values.Inside.{Inside}
use Rattle.fhir_positions.specs.declared.values.Inside.TheVariants.{Between, Word, Text, Escape}
use Rattle.fhir_positions.specs.declared.values.Kind.{Kind}
use Rattle.fhir_positions.specs.declared.values.Kind.TheVariants.{Blank, Colon, End, Opening, Quote, Backslash, Other}
use Rattle.fhir_positions.specs.declared.values.Turn.{Turn}
use Rattle.fhir_positions.specs.declared.values.Turn.TheVariants.{Passes, Names, Settles, Begins, Quotes}
use Rattle.fhir_positions.specs.declared.values.Values.{Values}
use Rattle.fhir_positions.specs.Positions.{behind_front}

-- ---- bytes

abbrev pub kind_of : ℕ → Kind
kind_of b =
    if is_blank b then Blank
    else
    (if b == colon then Colon else
    (if (b == comma) || (b == close_bracket) || (b == close_brace) then End else
    (if (b == open_bracket) || (b == open_brace) then Opening else (if b == quote then Quote else (if b == backslash then Backslash else Other)))))

-- what a byte outside of strings says, where one of a word says this
abbrev pub turn_outside : Turn → Kind → Turn
turn_outside word Blank = Passes
turn_outside word Colon = Names
turn_outside word End = Settles
turn_outside word Opening = Begins
turn_outside word Quote = Quotes
turn_outside word Backslash = word
turn_outside word Other = word

abbrev pub turn_of : Inside → Kind → Turn
turn_of Between kind = turn_outside Begins kind
turn_of Word kind = turn_outside Passes kind
turn_of Text kind = Passes
turn_of Escape kind = Passes

abbrev pub outside_behind : Kind → Inside
outside_behind Blank = Between
outside_behind Colon = Between
outside_behind End = Between
outside_behind Opening = Between
outside_behind Quote = Text
outside_behind Backslash = Word
outside_behind Other = Word

abbrev pub text_behind : Kind → Inside
text_behind Blank = Text
text_behind Colon = Text
text_behind End = Text
text_behind Opening = Text
text_behind Quote = Between
text_behind Backslash = Escape
text_behind Other = Text

abbrev pub inside_behind : Inside → Kind → Inside
inside_behind Between kind = outside_behind kind
inside_behind Word kind = outside_behind kind
inside_behind Text kind = text_behind kind
inside_behind Escape kind = Text

-- ---- what was found

-- where values begin, where a string begins that may be a name, and what the next byte stands in
pub record Seen : Type 0 where
  pub found : List Position
  pub string : Option Position
  pub inside : Inside

abbrev pub seen : Values → Seen
seen v = record { found = v.found.items; string = v.string; inside = v.inside }

-- all values, if the string is one
abbrev pub settled : List Position → Option Position → List Position
settled found string = found ++ option_to_list string

abbrev pub turned : Turn → Position → Inside → List Position → Option Position → Seen
turned Passes at inside found string = record { found = found; string = string; inside = inside }
turned Names at inside found string = record { found = found; string = None; inside = inside }
turned Settles at inside found string = record { found = settled found string; string = None; inside = inside }
turned Begins at inside found string = record { found = settled found string ++ at ∷ []; string = None; inside = inside }
turned Quotes at inside found string = record { found = settled found string; string = Some at; inside = inside }

-- one byte more
abbrev pub passed : Position → ℕ → Seen → Seen
passed at b s = turned (turn_of s.inside (kind_of b)) at (inside_behind s.inside (kind_of b)) s.found s.string

-- more bytes, behind the front of a text
abbrev pub lexed : Seen → List ℕ → List ℕ → Seen
lexed s front [] = s
lexed s front (b ∷ bs) = lexed (passed (behind_front front) b s) (front ++ b ∷ []) bs

-- nothing so far
abbrev pub nothing_seen : Seen
nothing_seen = record { found = []; string = None; inside = Between }
