-- What it is that nothing is wrong with the files of a folder and with a certificate.
use Rattle.std.specs.Prelude.{◌≡◌, [], Option, None, Some, Ok, option_map}
use Rattle.fhir_json.specs.Tree.{Text}
use Rattle.fhir_package.specs.Definitions.{Definitions}
use Rattle.fhir_package.specs.ReadFiles.{ReadFiles, pack_given}
use Rattle.fhir_package.specs.Surveying.{Surveyed, survey}
use Rattle.fhir_snapshot.specs.Completing.{Numbered, IsCompletion, Completes}
use Rattle.fhir_schema.specs.Schemas.{SchemaValue, schema_of}
use Rattle.fhir_certificate.specs.Format.{Written, Spells}
use Rattle.fhir_certificate.specs.Reading.{reading}
use Rattle.fhir_cert_check.specs.Checking.{answer_of}
use Rattle.fhir_cert_check.specs.Inclusion.{Includes, IncludesTyped}
use Rattle.fhir_findings.specs.Clean.{AreSelectedUsable}
use Rattle.fhir_findings.specs.Finding.{selected_unusable}
use Rattle.fhir_findings.specs.Selecting.{SelectionValue}
use Rattle.fhir_report.specs.declared.reporting.CertificateFile.{CertificateFile}

-- a certificate: the name of its file, and its bytes
abbrev pub CertificateValue : Type 0
CertificateValue = Text × Text

-- nothing is wrong with a certificate of these bytes
abbrev pub IsRight : SchemaValue → Text → Type 0
IsRight s bytes = answer_of (reading s bytes) s ≡ Ok None

-- what a right one promises: each resource that conforms to the derived profile that it spells conforms to its base, and so does
-- each typed item, wherever it stands
abbrev pub Promises : SchemaValue → Text → Type 0
Promises s bytes = (w : Written) × Spells bytes w × Includes s w.derived w.base × IncludesTyped s w.derived w.base

-- the same where there may be none
abbrev pub IsRightIfAny : SchemaValue → Option CertificateValue → Type 0
IsRightIfAny s None = Unit {0}
IsRightIfAny s (Some c) = IsRight s c.1

abbrev pub PromisesIfAny : SchemaValue → Option CertificateValue → Type 0
PromisesIfAny s None = Unit {0}
PromisesIfAny s (Some c) = Promises s c.1

-- nothing is wrong with the files that were surveyed, with the definitions that are reported on, nor with the certificate, if there is one
abbrev pub IsRightBy : SelectionValue → SchemaValue → Surveyed → Option CertificateValue → Type 0
IsRightBy selection s sv certificate = (sv.faults ≡ []) × (selected_unusable selection s sv ≡ []) × IsRightIfAny s certificate

-- ---- the same of files

-- a survey of files whose package is completed, and the schema of that
pub record AreOf (files : ReadFiles) (sv : Surveyed) (s : SchemaValue) : Type 0 where
  pub faults : Numbered
  pub completed : IsCompletion (survey files).definitions sv.definitions faults
  pub survey_is : sv ≡ record (survey files) { definitions = sv.definitions }
  pub schema_is : s ≡ schema_of sv.definitions

-- The files were all given and are a package. Of that package completed, each definition that is reported on can be used, and the
-- certificate, if there is one, is right.
abbrev pub IsFaultless : SelectionValue → ReadFiles → Option CertificateValue → Type 0
IsFaultless selection files certificate =
    (p : Definitions) × (completed : Definitions) × (pack_given files ≡ Some (Ok p)) × Completes p completed
    × AreSelectedUsable selection completed × IsRightIfAny (schema_of completed) certificate

-- what that promises
abbrev pub IsPromised : ReadFiles → Option CertificateValue → Type 0
IsPromised files certificate =
    (p : Definitions) × (completed : Definitions) × (pack_given files ≡ Some (Ok p)) × Completes p completed
    × PromisesIfAny (schema_of completed) certificate

-- ---- what contracts see

abbrev pub certificate_seen : Option CertificateFile → Option CertificateValue
certificate_seen certificate = option_map (λ c. (c.name.now, c.bytes.now)) certificate
