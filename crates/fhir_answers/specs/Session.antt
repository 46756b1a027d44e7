-- What is held between two answers.
use Rattle.std.specs.Prelude.{◌≡◌, ℕ, length}
use Rattle.fhir_package.specs.ReadFiles.{ReadFiles}
use Rattle.fhir_package.specs.Surveying.{Surveyed, survey}
use Rattle.fhir_snapshot.specs.Completing.{IsCompletion}
use Rattle.fhir_schema.specs.Schemas.{SchemaValue, schema_of}
use Rattle.fhir_report.specs.Lacking.{Lacking, numbers}

-- the survey of a folder's files whose package is completed, the definitions of it that have no snapshot, and how many files there are
pub record SessionValue : Type 0 where
  pub survey : Surveyed
  pub lacking : Lacking
  pub files : ℕ

-- The survey is that of the files but for the package, which is completed.
pub record IsCompleted (files : ReadFiles) (sv : Surveyed) (lacking : Lacking) : Type 0 where
  pub completed : IsCompletion (survey files).definitions sv.definitions (numbers lacking)
  pub survey_is : sv ≡ record (survey files) { definitions = sv.definitions }

-- A session of files: what was surveyed of them, with the package completed.
pub record IsSessionOf (files : ReadFiles) (s : SessionValue) : Type 0 where
  pub completed : IsCompleted files s.survey s.lacking
  pub files_are : s.files ≡ length files

-- the schema of the package of all that is right
abbrev pub schema_in : SessionValue → SchemaValue
schema_in s = schema_of s.survey.definitions
