-- The rows on a line.
use Rattle.std.specs.Prelude.{ℕ, List, [], ◌∷◌, ◌++◌, ◌&&◌, Bool, true, false, not, max, map, flat_map, zip, if◌then◌else◌, codes, bytes_eq}
use Rattle.std.specs.Fmt.{decimal}
use Rattle.std.specs.Option.{option_map_or}
use Rattle.fhir_json.specs.Compact.{compact}
use Rattle.fhir_json.specs.Bytes.{is_empty}
use Rattle.fhir_json.specs.Fields.{text_in}
use Rattle.fhir_json.specs.Tree.{Text, Tree, string}
use Rattle.fhir_json.specs.declared.position.Position.{Position}
use Rattle.fhir_lines.specs.Lines.{escaped}
use Rattle.fhir_words.specs.declared.request.Format.{Format}
use Rattle.fhir_words.specs.declared.request.Format.TheVariants.{Text as AsText, Json as AsJson}
use Rattle.fhir_telling.specs.declared.verdict.LineVerdict.{LineVerdict}
use Rattle.fhir_telling.specs.declared.verdict.LineVerdict.TheVariants.{Conforms, Violates, Open, Fault, NoMemory, Empty}
use Rattle.fhir_telling.specs.Verdicts.{verdict_of}
use Rattle.fhir_telling.specs.Judgements.{NoteValue, JudgementValue, ToldValue, issues_of, place_of, diagnostics_of}

abbrev pub verdict_word : Format → LineVerdict → Text
verdict_word format Conforms = codes "conforms"
verdict_word format Violates = codes "violates"
verdict_word format Open = codes "open"
verdict_word format Fault = codes "fault"
verdict_word AsText NoMemory = codes "no memory"
verdict_word AsJson NoMemory = codes "memory"
verdict_word format Empty = codes "empty"

-- How each row on a file begins: with the file's name.
abbrev pub heading : Format → Text → Text
heading AsText file = escaped file ++ codes ":"
heading AsJson file = codes "{\"file\":" ++ escaped (compact (string file)) ++ codes ",\"line\":"

-- ---- texts

-- a place, and a colon behind it, where there is one
abbrev pub place_text : Text → Text
place_text place = if is_empty place then [] else escaped place ++ codes ": "

-- what an issue says in plain words, where it does, and a colon in front
abbrev pub words_text : Text → Text
words_text words = if is_empty words then [] else codes ": " ++ escaped words

abbrev pub issue_text : Tree → NoteValue → Text
issue_text issue note = place_text (place_of issue) ++ escaped (diagnostics_of issue) ++ words_text note.words

-- the line of a file on which something is that is at a position of a text which begins on that one: only the text of a document has several lines
abbrev pub line_of : ℕ → Position → ℕ
line_of number at = max number at.line

-- FILE:LINE:COLUMN: PLACE: RULE: WORDS
abbrev pub issue_row : Text → ℕ → Tree × NoteValue → Text
issue_row heading number (issue, note) =
    heading ++ decimal (line_of number note.at) ++ codes ":" ++ decimal note.at.column ++ codes ": " ++ issue_text issue note ++ codes "\n"

-- an issue has a row, unless it only says why the resource conforms
abbrev pub is_told : Tree → Bool
is_told issue = not (bytes_eq (option_map_or (λ text. text) (text_in (codes "severity") issue) []) (codes "information"))

abbrev pub row_if_told : Text → ℕ → Tree × NoteValue → Text
row_if_told heading number (issue, note) = if is_told issue then issue_row heading number (issue, note) else []

abbrev pub judgement_rows : Text → ℕ → JudgementValue → Text
judgement_rows heading number j = flat_map (row_if_told heading number) (zip (issues_of j.outcome) j.notes)

-- ---- JSON

-- what stands before each part
unfoldable pub profile_start : Text
profile_start = codes "{\"profile\":"

unfoldable pub verdict_start : Text
verdict_start = codes ",\"verdict\":\""

unfoldable pub outcome_start : Text
outcome_start = codes "\",\"outcome\":"

unfoldable pub at_start : Text
at_start = codes ",\"at\":["

unfoldable pub outcomes_start : Text
outcomes_start = codes "\",\"outcomes\":["

abbrev pub separated : List Text → Text
separated [] = []
separated (t ∷ ts) = t ++ flat_map (λ u. codes "," ++ u) ts

abbrev pub position_json : ℕ → Position → Text
position_json number at = codes "[" ++ decimal (line_of number at) ++ codes "," ++ decimal at.column ++ codes "]"

abbrev pub profile_json : Text → Text
profile_json profile = profile_start ++ escaped (compact (string profile))

-- the verdict, and what stands behind it
abbrev pub verdict_json : LineVerdict → Text → Text
verdict_json verdict next = verdict_start ++ verdict_word AsJson verdict ++ next

abbrev pub at_json : ℕ → List NoteValue → Text
at_json number notes = at_start ++ separated (map (λ note. position_json number note.at) notes) ++ codes "]}"

abbrev pub judgement_json : ℕ → JudgementValue → Text
judgement_json number j =
    profile_json j.profile ++ verdict_json (verdict_of j.standing) outcome_start ++ escaped (compact j.outcome) ++ at_json number j.notes

-- ---- the rows

-- behind the number of the line
abbrev pub tail : Format → Text → ℕ → ToldValue → Text
tail AsText heading number told =
    codes ": " ++ verdict_word AsText told.verdict ++ codes "\n" ++ flat_map (judgement_rows heading number) told.judgements
tail AsJson heading number told =
    verdict_json told.verdict outcomes_start ++ separated (map (judgement_json number) told.judgements) ++ codes "]}\n"

abbrev pub rows : Format → Text → ℕ → ToldValue → Text
rows format heading number told = heading ++ decimal number ++ tail format heading number told

abbrev pub is_good : LineVerdict → Bool
is_good Conforms = true
is_good _ = false

-- nothing, where only what is bad is told
abbrev pub shown : Bool → Format → Text → ℕ → ToldValue → Text
shown only_bad format heading number told = if only_bad && is_good told.verdict then [] else rows format heading number told

-- that an input can't be read, or not be read on
abbrev pub unread_tail : Format → Text
unread_tail AsText = codes ": fault: can't be read\n"
unread_tail AsJson = codes ",\"verdict\":\"fault\",\"outcomes\":[]}\n"
