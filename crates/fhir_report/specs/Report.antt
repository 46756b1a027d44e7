-- What a report says.
use Rattle.std.specs.Prelude.{◌≡◌, ℕ, List, [], ◌∷◌, ◌++◌, map, flat_map, Bool, true, false, Option, None, Some, Result, Ok, Err, if◌then◌else◌, codes, All}
use Rattle.std.specs.Option.{option_map_or}
use Rattle.std.specs.Map.{lookup}
use Rattle.std.specs.Str.{bytes_eq}
use Rattle.fhir_json.specs.Tree.{Text}
use Rattle.fhir_json.specs.Refusals.{fault_of}
use Rattle.fhir_package.specs.Surveying.{FileFault, unreadable, not_json, clash, Surveyed}
use Rattle.fhir_schema.specs.Schemas.{SchemaValue}
use Rattle.fhir_certificate.specs.declared.fault.CertFault.{CertFault}
use Rattle.fhir_certificate.specs.declared.pair.Pair.{Pair}
use Rattle.fhir_certificate.specs.Reading.{reading}
use Rattle.fhir_cert_check.specs.Checking.{answer_of}
use Rattle.fhir_cert_check.specs.Rule.{RuleName}
use Rattle.fhir_cert_check.specs.Texts.{pair_text}
use Rattle.fhir_package.specs.SurveyView.{fault_seen}
use Rattle.fhir_findings.specs.declared.finding.Finding.{Finding}
use Rattle.fhir_findings.specs.declared.finding.Finding.TheVariants.{File as FileOne, Unusable as UnusableOne}
use Rattle.fhir_findings.specs.Counting.{counts, counts_text}
use Rattle.fhir_findings.specs.Carrying.{all_carriers}
use Rattle.fhir_findings.specs.Finding.{UnusableValue, selected_unusable}
use Rattle.fhir_findings.specs.Selecting.{SelectionValue}
use Rattle.fhir_lines.specs.declared.line.FaultNumber.{FaultNumber}
use Rattle.fhir_snapshot.specs.Faults.{number_of}
use Rattle.fhir_lines.specs.declared.line.FaultNumber.TheVariants.{Unreadable, Clash, Json, Unusable, Snapshot, Certificate}
use Rattle.fhir_words.specs.declared.request.Manner.{Manner}
use Rattle.fhir_words.specs.declared.request.Detail.{Detail}
use Rattle.fhir_report.specs.CarrierLines.{carried_lines}
use Rattle.fhir_report.specs.ContradictionLines.{contradiction_lines}
use Rattle.fhir_report.specs.Faultless.{CertificateValue}
use Rattle.fhir_report.specs.Lacking.{Lacking}
use Rattle.fhir_report.specs.UnrecognizedLines.{unrecognized_lines}
use Rattle.fhir_lines.specs.Lines.{LineValue, text_line, file_line, rows}

-- ---- what was found

-- where something was found, and its number: a line without the element's id and the words
pub record Head : Type 0 where
  pub file : Option Text
  pub line : Option ℕ
  pub column : Option ℕ
  pub number : Option FaultNumber
  pub url : Option Text

abbrev pub head : LineValue → Head
head l = record { file = l.file; line = l.line; column = l.column; number = l.number; url = l.url }

-- of what is wrong with a file: it can't be read, is no text of JSON, with the place, or has a second definition of a url
abbrev pub fault_head : FileFault → Head
fault_head (unreadable file) = record { file = Some file; line = None; column = None; number = Some Unreadable; url = None }
fault_head (not_json file expected position) =
    record { file = Some file; line = Some position.line; column = Some position.column; number = Some (Json (fault_of expected)); url = None }
fault_head (clash kind url file first) = record { file = Some file; line = None; column = None; number = Some Clash; url = Some url }

-- The number of a definition that can't be used: that of the fault for which it has no snapshot, where the snapshots that the
-- package lacks are these; else that of the reason.
abbrev pub unusable_number : Lacking → UnusableValue → FaultNumber
unusable_number lacking u = option_map_or (λ fault. Snapshot (number_of fault)) (lookup (bytes_eq u.1) lacking) (Unusable u.2)

-- of a definition that can't be used, told with a number
abbrev pub numbered_head : FaultNumber → UnusableValue → Head
numbered_head number u = record { file = Some u.0; line = None; column = None; number = Some number; url = Some u.1 }

abbrev pub unusable_head : Lacking → UnusableValue → Head
unusable_head lacking u = numbered_head (unusable_number lacking u) u

-- ---- the lines of each kind, by their numbers

abbrev pub is_of_file : FaultNumber → Bool
is_of_file Unreadable = true
is_of_file Clash = true
is_of_file (Json fault) = true
is_of_file _ = false

abbrev pub is_unusable : FaultNumber → Bool
is_unusable (Unusable reason) = true
is_unusable (Snapshot n) = true
is_unusable _ = false

abbrev pub kept : (FaultNumber → Bool) → Head → List Head
kept is h = option_map_or (λ number. if is number then h ∷ [] else []) h.number []

-- those of a kind, in their order
abbrev pub all_told : (FaultNumber → Bool) → List LineValue → List Head
all_told is ls = flat_map (λ l. kept is (head l)) ls

-- The lines tell each fault of a file, and each definition that can't be used of those that are reported on, once and in their order, and
-- no other.
pub record TellsFindings (selection : SelectionValue) (s : SchemaValue) (survey : Surveyed) (lacking : Lacking) (ls : List LineValue) : Type 0 where
  pub of_faults : all_told is_of_file ls ≡ map fault_head survey.faults
  pub of_unusable : all_told is_unusable ls ≡ map (unusable_head lacking) (selected_unusable selection s survey)

-- A line tells a finding.
abbrev pub TellsFinding : Lacking → Finding → LineValue → Type 0
TellsFinding lacking (FileOne fault) l = head l ≡ fault_head (fault_seen fault.now)
TellsFinding lacking (UnusableOne u) l = head l ≡ unusable_head lacking (u.file.now, u.url.now, u.reason)

-- ---- what is told of a certificate

-- a line of a file with one of these numbers
abbrev pub IsOfCertificate : Text → LineValue → Type 0
IsOfCertificate file l = (fault : CertFault) × (l.file ≡ Some file) × (l.number ≡ Some (Certificate fault))

-- Of a certificate in a file whose answer is this: a yes; or the pair that fails a rule, with words on the rule; or what is wrong
-- with its lines.
abbrev pub TellsAnswer : SchemaValue → Text → Result (Option (Pair × RuleName)) CertFault → List LineValue → Type 0
TellsAnswer s file (Ok None) ls = ls ≡ file_line file None (codes "yes") ∷ []
TellsAnswer s file (Ok (Some wrong)) ls =
    (words : Text) × (ls ≡ file_line file None (codes "no: " ++ pair_text s wrong.0 ++ codes ": " ++ words) ∷ [])
TellsAnswer s file (Err fault) ls = All (IsOfCertificate file) ls

-- of none nothing is told
abbrev pub TellsCertificate : SchemaValue → Option CertificateValue → List LineValue → Type 0
TellsCertificate s None ls = ls ≡ []
TellsCertificate s (Some c) ls = TellsAnswer s c.0 (answer_of (reading s c.1) s) ls

-- ---- a report

-- what isn't wrong and is told all the same: members that R4 doesn't have, what can never hold, and what isn't judged
abbrev pub noted_lines : Detail → SelectionValue → SchemaValue → Surveyed → List LineValue
noted_lines detail selection s survey =
    unrecognized_lines selection survey ++ contradiction_lines selection s survey
    ++ carried_lines detail survey.definitions (all_carriers selection s survey)

-- The text has a row for each finding, then those on what isn't wrong, then those on the certificate, and a last one with the counts of a
-- package of so many files.
pub record IsReport (manner : Manner) (files : ℕ) (selection : SelectionValue) (s : SchemaValue) (survey : Surveyed) (lacking : Lacking) (certificate : Option CertificateValue) (text : Text) : Type 0 where
  pub found : List LineValue
  pub judged : List LineValue
  pub written :
      text
      ≡ rows manner.format
      (found ++ noted_lines manner.detail selection s survey ++ judged ++ text_line (counts_text (counts files survey s)) ∷ [])
  pub tells_findings : TellsFindings selection s survey lacking found
  pub tells_certificate : TellsCertificate s certificate judged
