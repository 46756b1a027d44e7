-- What a run is of.
use Rattle.std.specs.Prelude.{◌≡◌, ◌&&◌, ℕ, List, None, Option, Some, Ok, IsSome, is_none, option_map, ◌++◌}
use Rattle.std.specs.Io.KnownBytes.{Appends}
use Rattle.fhir_json.specs.Tree.{Text}
use Rattle.fhir_package.specs.Folder.{Files}
use Rattle.fhir_package.specs.ReadFiles.{ReadFiles}
use Rattle.fhir_package.specs.Surveying.{refusal}
use Rattle.fhir_schema.specs.Schemas.{SchemaValue, root}
use Rattle.fhir_answers.specs.Session.{SessionValue, IsSessionOf, schema_in}
use Rattle.fhir_engine.specs.Reading.{IsReadOf}
use Rattle.fhir_engine.specs.Serving.{file_seen, AreTextsIf}
use Rattle.fhir_inputs.specs.Inputs.{InputValue}
use Rattle.fhir_bulk.specs.declared.tally.Tally.{Tally}
use Rattle.fhir_telling.specs.Questions.{QuestionValue, profile_asked, skips}
use Rattle.fhir_words.specs.Requests.{BulkValue}
use Rattle.fhir_bulk.specs.Running.{IsRun, AreRelied, summary}
use Rattle.fhir_bulk_engine.specs.declared.asked.Asked.{Asked}
use Rattle.fhir_bulk_engine.specs.declared.plan.InputFile.{InputFile}

-- what is known of a file of a device: what it holds, and not its bytes
abbrev pub input_of : InputFile → InputValue
input_of file = record { kind = file.kind; bytes = None }

-- what is asked by a schema, and by the texts that are given, if any are
abbrev pub asked_question : SchemaValue → Asked → Option (List Text) → QuestionValue
asked_question s asked texts = record {
  schema = s;
  profile = profile_asked asked.profiles;
  skips_unknown = skips asked.profiles;
  texts = texts;
  format = asked.format;
  only_bad = asked.only_bad;
}

-- a profile that is asked for is there, and can be used
abbrev pub CanBeUsed : SchemaValue → Option Text → Type 0
CanBeUsed s None = Unit {0}
CanBeUsed s (Some url) = IsSome (root s url)

-- All lines of the inputs were told, with these counts, and the output has grown by that.
pub record IsToldOf (q : QuestionValue) (names : List Text) (inputs : List InputValue) (passed_over : ℕ) (tally : Tally) (old new : Option (List ℕ)) : Type 0 where
  pub written : Text
  pub run : IsRun q names inputs tally written
  pub relied : Text
  pub are_relied : AreRelied q.texts relied
  pub appended : Appends old new (written ++ (relied ++ summary q.format tally passed_over))

-- So it was of a session whose files are a package, in which the profile can be used.
pub record IsToldOfSession (session : SessionValue) (asked : Asked) (names : List Text) (inputs : List InputValue) (passed_over : ℕ) (tally : Tally) (old new : Option (List ℕ)) : Type 0 where
  pub is_package : refusal session.survey ≡ None
  pub usable : CanBeUsed (schema_in session) (profile_asked asked.profiles)
  pub texts : Option (List Text)
  pub are_texts : AreTextsIf (file_seen asked.given) texts
  pub told : IsToldOf (asked_question (schema_in session) asked texts) names inputs passed_over tally old new

-- The same of what was read of a folder's files.
pub record IsBulk (folder : Files) (asked : Asked) (names : List Text) (inputs : List InputValue) (passed_over : ℕ) (tally : Tally) (old new : Option (List ℕ)) : Type 0 where
  pub read : ReadFiles
  pub is_read : IsReadOf folder (Ok read)
  pub session : SessionValue
  pub is_session : IsSessionOf read session
  pub told : IsToldOfSession session asked names inputs passed_over tally old new

-- What is asked of each resource is what the request says: the profile at the url that it gives, and else those that the resource claims, of which
-- those that aren't there are passed over where it says so.
pub record IsAskedBy (request : BulkValue) (asked : Asked) : Type 0 where
  pub profile : profile_asked asked.profiles ≡ request.profile
  pub skips_unknown : skips asked.profiles ≡ (is_none request.profile && request.skip_unknown)
  pub given : option_map (λ file. file.name.now) asked.given ≡ request.given
  pub format : asked.format ≡ request.format
  pub only_bad : asked.only_bad ≡ request.only_bad

-- What a request asks was asked of the files of some folder, and of some inputs.
abbrev pub IsBulkBy : BulkValue → (old new : Option (List ℕ)) → Tally → Type 0
IsBulkBy request old new tally =
    (folder : Files) × (asked : Asked) × IsAskedBy request asked × (names : List Text) × (inputs : List InputValue) × (passed_over : ℕ)
    × IsBulk folder asked names inputs passed_over tally old new
