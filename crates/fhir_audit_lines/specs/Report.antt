-- All that an audit tells.
use Rattle.std.specs.Prelude.{◌≡◌, List, [], ◌∷◌, ◌++◌, Option}
use Rattle.fhir_json.specs.Tree.{Text}
use Rattle.fhir_json.specs.Compact.{compact}
use Rattle.fhir_schema.specs.Schemas.{SchemaValue}
use Rattle.fhir_words.specs.declared.request.Format.{Format}
use Rattle.fhir_words.specs.declared.request.Format.TheVariants.{Text as AsText, Json as AsJson}
use Rattle.fhir_audit.specs.declared.verdict.Audited.{Audited}
use Rattle.fhir_audit.specs.Auditing.{AuditedValue}
use Rattle.fhir_audit.specs.Views.{all_audited}
use Rattle.fhir_audit_words.specs.Counting.{counts_of}
use Rattle.fhir_lines.specs.Lines.{text_rows}
use Rattle.fhir_lines.specs.Each.{AreOnEach}
use Rattle.fhir_audit_lines.specs.Counting.{counts_text}
use Rattle.fhir_audit_lines.specs.Telling.{IsToldText}
use Rattle.fhir_audit_lines.specs.Trees.{IsToldTree, counts_tree}
use Rattle.fhir_audit_lines.specs.Held.{HeldValue, AreOnCertificates}

-- the lines on a profile
abbrev pub IsTold : Format → SchemaValue → AuditedValue → List Text → Type 0
IsTold AsText s a ls = IsToldText s a ls
IsTold AsJson s a ls = IsToldTree a ls

-- those on each, in order
abbrev pub AreTold : Format → SchemaValue → List AuditedValue → List Text → Type 0
AreTold format s told ls = AreOnEach (IsTold format s) told ls

-- the last line
abbrev pub last_line : Format → List Audited → Text
last_line AsText told = counts_text (counts_of told)
last_line AsJson told = compact (counts_tree (counts_of told))

-- Each profile is told in order, and then the certificates that were made before, and the profiles without one; the last line has the counts. No text
-- puts in a line or a control character.
pub record IsReport (format : Format) (s : SchemaValue) (told : List Audited) (held : Option (List HeldValue)) (text : Text) : Type 0 where
  pub on_profiles : List Text
  pub are_told : AreTold format s (all_audited told) on_profiles
  pub on_certificates : List Text
  pub are_held : AreOnCertificates format s (all_audited told) held on_certificates
  pub written : text ≡ text_rows (on_profiles ++ on_certificates ++ last_line format told ∷ [])
