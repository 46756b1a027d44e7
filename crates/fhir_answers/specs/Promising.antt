-- What status 0 promises.
use Rattle.std.specs.Prelude.{◌≡◌, List, [], Option, None, Some, Ok, IsSome}
use Rattle.fhir_json.specs.Tree.{Text}
use Rattle.fhir_package.specs.declared.kind.Kind.TheVariants.{StructureDefinition}
use Rattle.fhir_package.specs.Definitions.{Definitions, at_url}
use Rattle.fhir_elements.specs.Element.{Element}
use Rattle.fhir_snapshot.specs.Snapshots.{IsSnapshot}
use Rattle.fhir_schema.specs.Schemas.{SchemaValue, unusable, schema_of}
use Rattle.fhir_certificate.specs.Certificate.{CertificateValue as DerivedValue}
use Rattle.fhir_certificate.specs.Reading.{reading}
use Rattle.fhir_cert_check.specs.Checking.{IsCertificate}
use Rattle.fhir_cert_check.specs.Inclusion.{Includes}
use Rattle.fhir_derive_check.specs.Deriving.{IsDerived}
use Rattle.fhir_findings.specs.Clean.{AreSelectedUsable}
use Rattle.fhir_findings.specs.Selecting.{SelectionValue, asked_selection}
use Rattle.fhir_replies.specs.Standing.{AlwaysConforms, ConformsAsGiven}
use Rattle.fhir_report.specs.Faultless.{CertificateValue, Promises, IsRightIfAny, PromisesIfAny}
use Rattle.fhir_unread.specs.Given.{texts_given, AreSame}
use Rattle.fhir_answers.specs.Reporting.{asked}
use Rattle.fhir_words.specs.Requests.{RequestValue, certify, migrate, validate, validate_given, snapshot, derive, counter, counter_given, check, unread}
use Rattle.fhir_answers.specs.Session.{SessionValue}
use Rattle.fhir_answers.specs.Views.{file_at}

-- The file was read. Its bytes spell a certificate, and each resource that conforms to its derived profile conforms to its base, as
-- does each typed item wherever it stands, whatever unread rules mean that is fair.
abbrev pub Certified : SchemaValue → Option Text → Type 0
Certified s file = (bytes : Text) × (file ≡ Some bytes) × Promises s bytes

-- The bytes are a certificate of the schema's nodes, with the versions of its definitions where they say some.
abbrev pub IsRead : SchemaValue → Text → Type 0
IsRead s bytes = (c : DerivedValue) × (reading s bytes ≡ Ok c)

-- The file was read, and its bytes are one.
abbrev pub Migrated : SchemaValue → Option Text → Type 0
Migrated s file = (bytes : Text) × (file ≡ Some bytes) × IsRead s bytes

-- The file was read. The resource that its bytes are conforms to the profile, whatever unread rules mean.
abbrev pub Validated : SchemaValue → Text → Option Text → Type 0
Validated s profile file = (bytes : Text) × (file ≡ Some bytes) × AlwaysConforms s profile bytes

-- The resource conforms by each meaning by which the rules hold whose texts the lines give.
abbrev pub ConformsByLines : SchemaValue → (profile bytes lines : Text) → Type 0
ConformsByLines s profile bytes lines = (texts : List Text) × AreSame texts (texts_given lines) × ConformsAsGiven s texts profile bytes

-- Both files were read, and the resource conforms by the lines of the second.
abbrev pub ValidatedAsGiven : SchemaValue → Text → (file given : Option Text) → Type 0
ValidatedAsGiven s profile file given =
    (bytes : Text) × (file ≡ Some bytes) × (lines : Text) × (given ≡ Some lines) × ConformsByLines s profile bytes lines

-- each definition that is selected can be used, and the certificate, if there is one, is right, and what it promises holds
abbrev pub AreRight : SelectionValue → Definitions → Option CertificateValue → Type 0
AreRight selection p certificate =
    AreSelectedUsable selection p × IsRightIfAny (schema_of p) certificate × PromisesIfAny (schema_of p) certificate

-- The same of the certificate of that name, if one is asked about: its file was read.
abbrev pub CheckedOf : SelectionValue → Definitions → Option Text → Option Text → Type 0
CheckedOf selection p name file = (certificate : Option CertificateValue) × (asked name file ≡ Some certificate) × AreRight selection p certificate

-- The same of what prefixes select, or of all definitions where there are none.
abbrev pub Checked : List Text → Definitions → Option Text → Option Text → Type 0
Checked prefixes p name file = CheckedOf (asked_selection prefixes p) p name file

-- There is a snapshot of the definition at a url.
abbrev pub Listed : Definitions → Text → Type 0
Listed p url = (es : List Element) × IsSnapshot p url es

-- The certificate of the pairs that are reached between two profiles is right, and each resource that conforms to the derived one conforms to
-- its base, whatever unread rules mean that is fair.
abbrev pub Derived : SchemaValue → (derived base : Text) → Type 0
Derived s derived base = (c : DerivedValue) × IsDerived s derived base c × IsCertificate s c × Includes s derived base

-- The profile that is named, if one is, is there and can be used.
abbrev pub CanBeListed : Definitions → Option Text → Type 0
CanBeListed p None = Unit {0}
CanBeListed p (Some url) = IsSome (at_url StructureDefinition url p) × (unusable (schema_of p) url ≡ None)

-- of a package that is completed, and of the bytes of the first and of the second file that is asked about
abbrev pub PromisedOf : RequestValue → Definitions → (first second : Option Text) → Type 0
PromisedOf (certify folder name) p first second = Certified (schema_of p) first
PromisedOf (migrate folder name) p first second = Migrated (schema_of p) first
PromisedOf (validate folder profile name) p first second = Validated (schema_of p) profile first
PromisedOf (validate_given folder profile name given) p first second = ValidatedAsGiven (schema_of p) profile first second
PromisedOf (snapshot folder url) p first second = Listed p url
PromisedOf (derive folder derived base) p first second = Derived (schema_of p) derived base
PromisedOf (counter folder derived base) p first second = Derived (schema_of p) derived base
PromisedOf (counter_given folder derived base given) p first second = Derived (schema_of p) derived base
PromisedOf (check folder certificate prefixes manner) p first second = Checked prefixes p certificate first
PromisedOf (unread folder profile) p first second = CanBeListed p profile

-- the same of the bytes of files, in the order of the words
abbrev pub Promised : RequestValue → Definitions → List (Option Text) → Type 0
Promised q p files = PromisedOf q p (file_at files 0) (file_at files 1)

-- of a session: nothing is wrong with any file, and the same of its package
abbrev pub SessionPromise : RequestValue → SessionValue → List (Option Text) → Type 0
SessionPromise q s files = (s.survey.faults ≡ []) × Promised q s.survey.definitions files
