-- What an audit tells of certificates that were made before, and of profiles without one.
use Rattle.std.specs.Prelude.{◌≡◌, ◌&&◌, List, [], ◌∷◌, ◌++◌, map, not, Bool, false, Option, None, Some, codes, string_bytes}
use Rattle.std.specs.List.{filter, list_any}
use Rattle.std.specs.Option.{option_map, option_map_or}
use Rattle.std.specs.Str.{bytes_eq}
use Rattle.fhir_json.specs.Tree.{Text, string, object, members_of, Property}
use Rattle.fhir_json.specs.Compact.{compact}
use Rattle.fhir_schema.specs.Schemas.{SchemaValue}
use Rattle.fhir_words.specs.declared.request.Format.{Format}
use Rattle.fhir_words.specs.declared.request.Format.TheVariants.{Text as AsText, Json as AsJson}
use Rattle.fhir_certificate.specs.Faults.{cert_number}
use Rattle.fhir_certificate.specs.declared.pair.Pair.{Pair}
use Rattle.fhir_cert_check.specs.Rule.{RuleName, rule_text}
use Rattle.fhir_cert_check.specs.Texts.{pair_text}
use Rattle.fhir_audit.specs.Auditing.{AuditedValue}
use Rattle.fhir_audit.specs.Standing.{StandingValue, holds, fails, is_faulty, is_gone, standing_seen, profiles_seen}
use Rattle.fhir_lines.specs.Each.{AreOnEach}
use Rattle.fhir_audit_lines.specs.declared.held_lines.HeldFile.{HeldFile}
use Rattle.fhir_audit_lines.specs.Telling.{under, failing_line}

-- a file's name, how the certificate that it is stands, and the two urls of that, if it is one
pub record HeldValue : Type 0 where
  pub name : Text
  pub standing : StandingValue
  pub profiles : Option (Text × Text)

abbrev pub held_seen : HeldFile → HeldValue
held_seen h = record { name = string_bytes h.name; standing = standing_seen h.held.standing; profiles = profiles_seen h.held }

-- those of a folder, if one is named
abbrev pub files_seen : Option (List HeldFile) → Option (List HeldValue)
files_seen held = option_map (λ files. map held_seen files) held

-- ---- the lines on a file, none where its certificate holds

-- in text: where a pair fails a rule, below it what both elements say, in words that aren't stated here
abbrev pub IsHeldText : SchemaValue → Text → StandingValue → List Text → Type 0
IsHeldText s name holds ls = ls ≡ []
IsHeldText s name (fails pair rule) ls =
    (words : Text) × (ls ≡ failing_line s (name ++ codes ": no longer holds") pair rule ∷ under [] words ∷ [])
IsHeldText s name (is_faulty fault) ls = ls ≡ (name ++ codes ": is no certificate here: " ++ cert_number fault) ∷ []
IsHeldText s name (is_gone url) ls = ls ≡ (name ++ codes ": its profile is gone: " ++ url) ∷ []

-- in JSON an object: the file's name, what is said of it, and more
abbrev pub held_line : Text → Text → List Property → Text
held_line name verdict more = compact (object (members_of ((codes "certificate", string name) ∷ (codes "verdict", string verdict) ∷ more)))

abbrev pub failing_members : SchemaValue → Pair → RuleName → Text → List Property
failing_members s pair rule words =
    (codes "pair", string (pair_text s pair)) ∷ (codes "rule", string (rule_text rule)) ∷ (codes "text", string words) ∷ []

abbrev pub IsHeldTree : SchemaValue → Text → StandingValue → List Text → Type 0
IsHeldTree s name holds ls = ls ≡ []
IsHeldTree s name (fails pair rule) ls =
    (words : Text) × (ls ≡ held_line name (codes "no longer holds") (failing_members s pair rule words) ∷ [])
IsHeldTree s name (is_faulty fault) ls = ls ≡ held_line name (codes "is no certificate here") ((codes "number", string (cert_number fault)) ∷ []) ∷ []
IsHeldTree s name (is_gone url) ls = ls ≡ held_line name (codes "its profile is gone") ((codes "url", string url) ∷ []) ∷ []

abbrev pub AreOnFile : Format → SchemaValue → HeldValue → List Text → Type 0
AreOnFile AsText s h ls = IsHeldText s h.name h.standing ls
AreOnFile AsJson s h ls = IsHeldTree s h.name h.standing ls

-- ---- the lines on profiles without a certificate

-- the file is a certificate that a profile narrows a base
abbrev pub is_of : Text → Text → HeldValue → Bool
is_of url base h = option_map_or (λ urls. bytes_eq url urls.0 && bytes_eq base urls.1) h.profiles false

-- one of the files is one that the profile narrows its base
abbrev pub has_certificate : List HeldValue → AuditedValue → Bool
has_certificate held a = option_map_or (λ base. list_any (is_of a.url base) held) a.base false

abbrev pub without_line : Format → Text → Text
without_line AsText url = url ++ codes ": has no certificate"
without_line AsJson url = compact (object (members_of ((codes "url", string url) ∷ (codes "verdict", string (codes "has no certificate")) ∷ [])))

abbrev pub without_lines : Format → List HeldValue → List AuditedValue → List Text
without_lines format held told = map (λ a. without_line format a.url) (filter (λ a. not (has_certificate held a)) told)

-- ---- all of them

-- Each file is told in order, and then each profile without a certificate; nothing, where no folder of certificates is named.
abbrev pub AreOnCertificates : Format → SchemaValue → List AuditedValue → Option (List HeldValue) → List Text → Type 0
AreOnCertificates format s told None ls = ls ≡ []
AreOnCertificates format s told (Some held) ls =
    (on_files : List Text) × AreOnEach (AreOnFile format s) held on_files × (ls ≡ on_files ++ without_lines format held told)
