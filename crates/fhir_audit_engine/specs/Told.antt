-- What an audit has told, by its status.
use Rattle.std.specs.Prelude.{◌≡◌, ℕ, List, [], ◌∷◌, Bool, true, ◌&&◌, Option, None, Some, Ok, is_some, if◌then◌else◌, string_bytes}
use Rattle.std.specs.List.{list_all}
use Rattle.std.specs.Option.{option_map_or}
use Rattle.std.specs.Io.KnownBytes.{Appends}
use Rattle.fhir_json.specs.Tree.{Text}
use Rattle.fhir_words.specs.declared.request.Format.{Format}
use Rattle.fhir_package.specs.Definitions.{Definitions}
use Rattle.fhir_package.specs.Folder.{Files}
use Rattle.fhir_package.specs.ReadFiles.{ReadFiles}
use Rattle.fhir_package.specs.Surveying.{Surveyed, refusal}
use Rattle.fhir_schema.specs.Schemas.{SchemaValue}
use Rattle.fhir_answers.specs.declared.reply.Status.{Status}
use Rattle.fhir_answers.specs.declared.reply.Status.TheVariants.{Yes, No, Open, Fault, Unwritten, Usage, NoMemory}
use Rattle.fhir_answers.specs.Session.{SessionValue, IsSessionOf, schema_in}
use Rattle.fhir_audit.specs.declared.verdict.Audited.{Audited}
use Rattle.fhir_audit.specs.Auditing.{AuditedValue, IsAudit, are_narrowing}
use Rattle.fhir_audit.specs.Standing.{standing_seen, is_holding, IsHeld}
use Rattle.fhir_audit.specs.Views.{all_audited}
use Rattle.fhir_audit_lines.specs.declared.held_lines.HeldFile.{HeldFile}
use Rattle.fhir_audit_lines.specs.Held.{files_seen}
use Rattle.fhir_audit_lines.specs.Report.{IsReport}
use Rattle.fhir_engine.specs.Reading.{IsReadOf}
use Rattle.fhir_engine.specs.Serving.{AreTextsIf}
use Rattle.fhir_audit_engine.specs.declared.asked.NamedBytes.{NamedBytes}
use Rattle.fhir_audit_engine.specs.Promising.{AuditPromise}

-- ---- the status

-- each certificate that was made before holds still, where some are asked about
abbrev pub are_held : Option (List HeldFile) → Bool
are_held held = option_map_or (λ files. list_all (λ file. is_holding (standing_seen file.held.standing)) files) held true

-- 0 exactly where each profile is shown to narrow its base, and each certificate holds; else 1
abbrev pub audit_status : List AuditedValue → Option (List HeldFile) → Status
audit_status told held = if are_narrowing told && are_held held then Yes else No

-- ---- what is told

-- how the certificate of each file stands, in their order
abbrev pub AreRechecked : SchemaValue → Definitions → List NamedBytes → List HeldFile → Type 0
AreRechecked s p [] [] = Unit {0}
AreRechecked s p [] (h ∷ held) = ⊥
AreRechecked s p (f ∷ files) [] = ⊥
AreRechecked s p (f ∷ files) (h ∷ held) = (string_bytes h.name ≡ string_bytes f.name) × IsHeld s p f.bytes.items h.held × AreRechecked s p files held

abbrev pub AreRecheckedIf : SchemaValue → Definitions → Option (List NamedBytes) → Option (List HeldFile) → Type 0
AreRecheckedIf s p None None = Unit {0}
AreRecheckedIf s p None (Some held) = ⊥
AreRecheckedIf s p (Some files) None = ⊥
AreRecheckedIf s p (Some files) (Some held) = AreRechecked s p files held

-- Of a package and its schema: how each profile that is asked about stands with its base, and each certificate that was made before; the status is the
-- worst of that, and the text tells it.
pub record IsAuditOf (prefixes : List Text) (format : Format) (files : Option (List NamedBytes)) (texts : Option (List Text)) (s : SchemaValue) (survey : Surveyed) (status : Status) (text : Text) : Type 0 where
  pub told : List Audited
  pub is_audit : IsAudit prefixes texts s survey (all_audited told)
  pub held : Option (List HeldFile)
  pub are_rechecked : AreRecheckedIf s survey.definitions files held
  pub status_is : status ≡ audit_status (all_audited told) held
  pub report : IsReport format s told (files_seen held) text

-- The same where the texts of unread rules that hold are those of a file, and standard output, whose bytes before and after are these, has grown by it.
abbrev pub IsTold : List Text → Format → Option (List NamedBytes) → Option (Option Text) → SchemaValue → Surveyed → Status → (old new : Option (List ℕ)) → Type 0
IsTold prefixes format files given s survey status old new =
    (texts : Option (List Text)) × (text : Text) × AreTextsIf given texts × IsAuditOf prefixes format files texts s survey status text × Appends old new text

-- Files of a folder were read, they are a package, and it is told of that.
abbrev pub IsAnswered : List Text → Format → Option (List NamedBytes) → Option (Option Text) → Files → Status → (old new : Option (List ℕ)) → Type 0
IsAnswered prefixes format files given folder status old new =
    (read : ReadFiles) × (s : SessionValue) × IsReadOf folder (Ok read) × IsSessionOf read s × (refusal s.survey ≡ None)
    × IsTold prefixes format files given (schema_in s) s.survey status old new

-- What each status says: 0 and 1 that all is told. It is never 2 or 4; and the others promise nothing: by them something stood in the way, before the
-- report was printed or behind it.
abbrev pub SaysOf : List Text → Format → Option (List NamedBytes) → Option (Option Text) → Files → Status → (old new : Option (List ℕ)) → Type 0
SaysOf prefixes format files given folder Yes old new = IsAnswered prefixes format files given folder Yes old new
SaysOf prefixes format files given folder No old new = IsAnswered prefixes format files given folder No old new
SaysOf prefixes format files given folder Open old new = ⊥
SaysOf prefixes format files given folder Fault old new = Unit {0}
SaysOf prefixes format files given folder Unwritten old new = Unit {0}
SaysOf prefixes format files given folder Usage old new = ⊥
SaysOf prefixes format files given folder NoMemory old new = Unit {0}

-- What a status says of some files, which were read: of a folder, and of texts and certificates exactly where a request names such. And what a yes promises.
pub record SaysOfRead (prefixes : List Text) (format : Format) (given against : Bool) (status : Status) (old new : Option (List ℕ)) : Type 0 where
  pub folder : Files
  pub texts : Option (Option Text)
  pub files : Option (List NamedBytes)
  pub texts_named : is_some texts ≡ given
  pub files_named : is_some files ≡ against
  pub says : SaysOf prefixes format files texts folder status old new
  pub promised : status ≡ Yes → AuditPromise prefixes folder
