-- What status 0 of an audit promises.
use Rattle.std.specs.Prelude.{◌≡◌, List, None, Ok}
use Rattle.fhir_json.specs.Tree.{Text}
use Rattle.fhir_package.specs.Folder.{Files}
use Rattle.fhir_package.specs.ReadFiles.{ReadFiles}
use Rattle.fhir_package.specs.Surveying.{refusal}
use Rattle.fhir_answers.specs.Session.{SessionValue, IsSessionOf, schema_in}
use Rattle.fhir_audit.specs.Auditing.{AllNarrow}
use Rattle.fhir_engine.specs.Reading.{IsReadOf}

-- The files of a session are a package, and each profile of it that is asked about narrows its base.
abbrev pub AllNarrowIn : List Text → SessionValue → Type 0
AllNarrowIn prefixes s = (refusal s.survey ≡ None) × AllNarrow prefixes (schema_in s) s.survey.definitions

-- So it is of what was read of a folder's files.
abbrev pub AuditPromise : List Text → Files → Type 0
AuditPromise prefixes folder =
    (read : ReadFiles) × (s : SessionValue) × IsReadOf folder (Ok read) × IsSessionOf read s × AllNarrowIn prefixes s
