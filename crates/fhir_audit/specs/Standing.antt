-- How a certificate stands that was made before: what is said of it by what its bytes are.
use Rattle.std.specs.Prelude.{◌≡◌, ℕ, List, Bool, true, false, Option, None, Some, Ok, Err, string_bytes, option_map}
use Rattle.fhir_json.specs.Tree.{Text}
use Rattle.fhir_package.specs.declared.kind.Kind.TheVariants.{StructureDefinition}
use Rattle.fhir_package.specs.Definitions.{Definitions, at_url}
use Rattle.fhir_schema.specs.Schemas.{SchemaValue}
use Rattle.fhir_certificate.specs.declared.fault.CertFault.{CertFault}
use Rattle.fhir_certificate.specs.declared.fault.CertFault.TheVariants.{UnknownNode}
use Rattle.fhir_certificate.specs.declared.pair.Pair.{Pair}
use Rattle.fhir_certificate.specs.declared.pair.NodePair.{NodePair}
use Rattle.fhir_certificate.specs.Certificate.{CertificateValue}
use Rattle.fhir_certificate.specs.Reading.{reading}
use Rattle.fhir_cert_check.specs.Checking.{IsCertificate, roots_of, wrong_with}
use Rattle.fhir_cert_check.specs.Inclusion.{Includes}
use Rattle.fhir_cert_check.specs.Rule.{RuleName}
use Rattle.fhir_cert_check.specs.Views.{rule_name}
use Rattle.fhir_audit.specs.declared.against.Held.{Held}
use Rattle.fhir_audit.specs.declared.against.Standing.{Standing}
use Rattle.fhir_audit.specs.declared.against.Standing.TheVariants.{Holds, Fails, IsFaulty, IsGone}

-- that it is right; that a pair fails a rule; that it can't be read; or that this, and that no definition of the url is there
pub data StandingValue : Type 0 where
  holds : StandingValue
  fails : Pair → RuleName → StandingValue
  is_faulty : CertFault → StandingValue
  is_gone : (url : List ℕ) → StandingValue

abbrev pub standing_seen : Standing → StandingValue
standing_seen Holds = holds
standing_seen (Fails pair rule) = fails pair (rule_name rule)
standing_seen (IsFaulty fault) = is_faulty fault
standing_seen (IsGone url) = is_gone (string_bytes url)

abbrev pub is_holding : StandingValue → Bool
is_holding holds = true
is_holding (fails pair rule) = false
is_holding (is_faulty fault) = false
is_holding (is_gone url) = false

-- What a certificate that can be read is: right, so that each resource which conforms to its derived profile conforms to its base; or the pair is the
-- first that fails a rule, and it isn't right.
abbrev pub IsChecked : SchemaValue → CertificateValue → StandingValue → Type 0
IsChecked s c holds = IsCertificate s c × Includes s c.derived c.base
IsChecked s c (fails pair rule) =
    (IsCertificate s c → ⊥) × ((roots : NodePair) → roots_of s c ≡ Some roots → wrong_with s c roots ≡ Some (pair, rule))
IsChecked s c (is_faulty fault) = ⊥
IsChecked s c (is_gone url) = ⊥

-- why bytes are none
abbrev pub IsUnread : SchemaValue → Definitions → Text → StandingValue → Type 0
IsUnread s p bytes holds = ⊥
IsUnread s p bytes (fails pair rule) = ⊥
IsUnread s p bytes (is_faulty fault) = reading s bytes ≡ Err fault
IsUnread s p bytes (is_gone url) = (reading s bytes ≡ Err UnknownNode) × (at_url StructureDefinition url p ≡ None)

-- how bytes stand, and the two urls of the certificate that they are, if they are one
abbrev pub IsStanding : SchemaValue → Definitions → Text → StandingValue → Option (Text × Text) → Type 0
IsStanding s p bytes standing None = IsUnread s p bytes standing
IsStanding s p bytes standing (Some urls) =
    (c : CertificateValue) × (reading s bytes ≡ Ok c) × (urls ≡ (c.derived, c.base)) × IsChecked s c standing

abbrev pub profiles_seen : Held → Option (Text × Text)
profiles_seen h = option_map (λ urls. (string_bytes urls.0, string_bytes urls.1)) h.profiles

abbrev pub IsHeld : SchemaValue → Definitions → Text → Held → Type 0
IsHeld s p bytes h = IsStanding s p bytes (standing_seen h.standing) (profiles_seen h)
