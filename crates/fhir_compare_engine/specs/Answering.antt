-- What is answered of two folders.
use Rattle.std.specs.Prelude.{◌≡◌, ℕ, List, None, Option, Result, Ok, Err, IsTrue}
use Rattle.std.specs.Io.KnownBytes.{Appends}
use Rattle.fhir_json.specs.Tree.{Text}
use Rattle.fhir_words.specs.declared.request.Audience.{Audience}
use Rattle.fhir_words.specs.declared.request.Format.{Format}
use Rattle.fhir_package.specs.Definitions.{Definitions}
use Rattle.fhir_package.specs.declared.folder.FolderFault.{FolderFault}
use Rattle.fhir_package.specs.Folder.{Files}
use Rattle.fhir_package.specs.ReadFiles.{ReadFiles}
use Rattle.fhir_package.specs.Surveying.{Surveyed, survey, refusal}
use Rattle.fhir_snapshot.specs.Completing.{Numbered, IsCompletion}
use Rattle.fhir_answers.specs.declared.reply.Status.{Status}
use Rattle.fhir_answers.specs.declared.reply.Status.TheVariants.{Yes, No, Open, Fault, Unwritten, Usage, NoMemory}
use Rattle.fhir_answers.specs.Session.{SessionValue, IsSessionOf}
use Rattle.fhir_answers.specs.Replying.{ReplyValue, written, noted, told, is_told}
use Rattle.fhir_engine.specs.Reading.{IsReadOf}
use Rattle.fhir_beside.specs.Beside.{IsBeside}
use Rattle.fhir_compare.specs.declared.verdict.Compared.{Compared}
use Rattle.fhir_compare.specs.Comparing.{IsComparison}
use Rattle.fhir_compare.specs.Views.{all_said}
use Rattle.fhir_compare_lines.specs.declared.parts.Part.{Part}
use Rattle.fhir_compare_lines.specs.declared.parts.Part.TheVariants as part
use Rattle.fhir_compare_lines.specs.Parts.{part_of}
use Rattle.fhir_compare_lines.specs.Report.{IsReport}

-- 1 exactly where the first part of a version has to change
abbrev pub part_status : Part → ℕ
part_status part.None = 0
part_status part.Minor = 0
part_status part.Major = 1

-- ---- of OLD's definitions and of those that were made, behind a mark

pub record IsTold (audience : Audience) (format : Format) (old made : Definitions) (mark : Text) (types : ℕ) (status : ℕ) (out : Text) : Type 0 where
  pub compared : List Compared
  pub is_comparison : IsComparison old made mark (all_said compared)
  pub status_is : status ≡ part_status (part_of audience (all_said compared))
  pub report : IsReport format old made compared types (part_of audience (all_said compared)) out

-- A reply tells it; or what can't be compared is told on standard error.
abbrev pub IsReplyBy : Audience → Format → (old made : Definitions) → Text → ℕ → ReplyValue → Type 0
IsReplyBy audience format old made mark types (written status out) = IsTold audience format old made mark types status out
IsReplyBy audience format old made mark types (noted status out notes) = ⊥
IsReplyBy audience format old made mark types (told status err) = ⊥

-- ---- of what was read

-- what is made of the survey of NEW's files: its package is completed, and OLD's profiles stand beside it
pub record IsNew (old : Definitions) (new made : Surveyed) (mark : Text) (types : ℕ) : Type 0 where
  pub completed : Definitions
  pub lacking : Numbered
  pub is_completed : IsCompletion new.definitions completed lacking
  pub is_made : IsBeside old completed mark made.definitions types

-- The files of both folders are packages, each is completed by itself, and what is told is told of the package that is made.
pub record IsAnswer (audience : Audience) (format : Format) (old new : ReadFiles) (status : ℕ) (out : Text) : Type 0 where
  pub session : SessionValue
  pub is_session : IsSessionOf old session
  pub old_right : refusal session.survey ≡ None
  pub new_right : refusal (survey new) ≡ None
  pub made : Surveyed
  pub mark : Text
  pub types : ℕ
  pub is_new : IsNew session.survey.definitions (survey new) made mark types
  pub is_told : IsTold audience format session.survey.definitions made.definitions mark types status out

abbrev pub IsReply : Audience → Format → (old new : ReadFiles) → ReplyValue → Type 0
IsReply audience format old new (written status out) = IsAnswer audience format old new status out
IsReply audience format old new (noted status out notes) = ⊥
IsReply audience format old new (told status err) = Unit {0}

-- The same where perhaps a folder wasn't listed, which is told on standard error then.
abbrev pub IsReplyRead : Audience → Format → (old new : Result ReadFiles FolderFault) → ReplyValue → Type 0
IsReplyRead audience format (Ok old) (Ok new) reply = IsReply audience format old new reply
IsReplyRead audience format (Err fault) new reply = IsTrue (is_told reply)
IsReplyRead audience format (Ok old) (Err fault) reply = IsTrue (is_told reply)

-- ---- what a status promises

-- some files of the folders were read, it is answered of them, and standard output, whose bytes before and after are these, holds the answer
abbrev pub IsAnswered : Audience → Format → (old new : Files) → ℕ → (before after : Option (List ℕ)) → Type 0
IsAnswered audience format old new status before after =
    (old_read new_read : ReadFiles) × (out : Text) × IsReadOf old (Ok old_read) × IsReadOf new (Ok new_read)
    × IsAnswer audience format old_read new_read status out × Appends before after out

abbrev pub IsPromised : Status → Audience → Format → (old new : Files) → (before after : Option (List ℕ)) → Type 0
IsPromised Yes audience format old new before after = IsAnswered audience format old new 0 before after
IsPromised No audience format old new before after = IsAnswered audience format old new 1 before after
IsPromised Open audience format old new before after = ⊥
IsPromised Fault audience format old new before after = Unit {0}
IsPromised Unwritten audience format old new before after = Unit {0}
IsPromised Usage audience format old new before after = ⊥
IsPromised NoMemory audience format old new before after = Unit {0}
