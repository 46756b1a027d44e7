-- Judgements on the resource of a line, and what is told of it.
use Rattle.std.specs.Prelude.{◌≡◌, List, [], length, codes, slice_get}
use Rattle.std.specs.Option.{option_map_or, option_and_then}
use Rattle.fhir_json.specs.Fields.{as_text, items_in, text_in}
use Rattle.fhir_json.specs.Tree.{Text, Tree}
use Rattle.fhir_json.specs.declared.position.Position.{Position}
use Rattle.fhir_commands.specs.declared.reply.Standing.{Standing}
use Rattle.fhir_telling.specs.declared.verdict.LineVerdict.{LineVerdict}
use Rattle.fhir_telling.specs.declared.verdict.LineVerdict.TheVariants.{NoMemory, Empty}

-- what is noted beside an issue: where it is in the resource's text, and what it says in plain words, or nothing
pub record NoteValue : Type 0 where
  pub at : Position
  pub words : Text

-- how a resource stands with a profile, the outcome that says so, and a note for each of the outcome's issues
pub record JudgementValue : Type 0 where
  pub profile : Text
  pub standing : Standing
  pub outcome : Tree
  pub notes : List NoteValue

pub record ToldValue : Type 0 where
  pub verdict : LineVerdict
  pub judgements : List JudgementValue

-- that memory was refused, and that a line is blank
abbrev pub told_memory : ToldValue
told_memory = record { verdict = NoMemory; judgements = [] }

abbrev pub told_empty : ToldValue
told_empty = record { verdict = Empty; judgements = [] }

abbrev pub issues_of : Tree → List Tree
issues_of outcome = items_in (codes "issue") outcome

-- where an issue of an outcome is, if that is said, and the empty text else
abbrev pub place_of : Tree → Text
place_of issue = option_map_or (λ place. place) (option_and_then as_text (slice_get (items_in (codes "expression") issue) 0)) []

-- what is wrong
abbrev pub diagnostics_of : Tree → Text
diagnostics_of issue = option_map_or (λ text. text) (text_in (codes "diagnostics") issue) []

abbrev pub IsNoted : JudgementValue → Type 0
IsNoted j = length j.notes ≡ length (issues_of j.outcome)
