-- The rows on a line, counted, and the texts and the numbers in them.
use Rattle.std.specs.Prelude.{ℕ, suc, ◌^◌, ◌<◌, List, length, filter, flat_map, zip, All, IsUtf8}
use Rattle.fhir_json.specs.Compact.{compact}
use Rattle.fhir_json.specs.Tree.{Tree}
use Rattle.fhir_words.specs.declared.request.Format.{Format}
use Rattle.fhir_words.specs.declared.request.Format.TheVariants.{Text as AsText, Json as AsJson}
use Rattle.fhir_telling.specs.Judgements.{NoteValue, JudgementValue, ToldValue, issues_of, place_of, diagnostics_of}
use Rattle.fhir_bulk.specs.Rows.{is_told}

-- the issues that have a row each, as texts
abbrev pub told_issues : JudgementValue → List (Tree × NoteValue)
told_issues j = filter (λ p. is_told p.0) (zip (issues_of j.outcome) j.notes)

-- as texts one for the verdict and one for each issue, and as JSON one for all
abbrev pub rows_in : Format → ToldValue → ℕ
rows_in AsText told = suc (length (flat_map told_issues told.judgements))
rows_in AsJson told = 1

-- An issue's place and what is wrong are texts of UTF-8.
abbrev pub IsIssueText : Tree → Type 0
IsIssueText issue = IsUtf8 (place_of issue) × IsUtf8 (diagnostics_of issue)

-- What it says in plain words is one.
abbrev pub IsNoteText : NoteValue → Type 0
IsNoteText note = IsUtf8 note.words

abbrev pub IsJudgementText : Format → JudgementValue → Type 0
IsJudgementText AsText j = All IsIssueText (issues_of j.outcome) × All IsNoteText j.notes
IsJudgementText AsJson j = IsUtf8 j.profile × IsUtf8 (compact j.outcome)

-- What is told of a line is texts of UTF-8.
abbrev pub AreTexts : Format → ToldValue → Type 0
AreTexts format told = All (IsJudgementText format) told.judgements

abbrev pub IsSmallPosition : NoteValue → Type 0
IsSmallPosition note = (note.at.line < 2 ^ 64) × (note.at.column < 2 ^ 64)

-- The line's number and the positions that are told on it are numbers of 64 bits.
abbrev pub AreSmall : ℕ → ToldValue → Type 0
AreSmall number told = (number < 2 ^ 64) × All (λ j. All IsSmallPosition j.notes) told.judgements
