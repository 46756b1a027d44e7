-- What comes of two profiles of which a certificate is to be derived, and the answer that tells it.
use Rattle.std.specs.Prelude.{◌≡◌, ◌+◌, length, Some}
use Rattle.fhir_json.specs.Tree.{Text}
use Rattle.fhir_schema.specs.Schemas.{SchemaValue}
use Rattle.fhir_certificate.specs.declared.pair.Pair.{Pair}
use Rattle.fhir_certificate.specs.Certificate.{CertificateValue}
use Rattle.fhir_certificate.specs.Format.{text_of}
use Rattle.fhir_certificate.specs.Writing.{written_by}
use Rattle.fhir_cert_check.specs.Checking.{IsCertificate}
use Rattle.fhir_cert_check.specs.Rule.{RuleName, rule_text}
use Rattle.fhir_cert_check.specs.Texts.{pair_text}
use Rattle.fhir_derive_check.specs.declared.fault.DeriveFault.TheVariants.{Missing, Unusable}
use Rattle.fhir_derive_check.specs.declared.fault.Side.{Side}
use Rattle.fhir_derive_check.specs.Deriving.{IsDerived, IsFirstFailing}
use Rattle.fhir_derive_check.specs.Faults.{derive_refusal}
use Rattle.fhir_derive_check.specs.Reaching.{HasCertificate}
use Rattle.fhir_commands.specs.Replies.{DeriveValue}
use Rattle.fhir_commands.specs.Replies as replies

-- a certificate; or, where there is none, a pair that fails a rule; or that no definition of one of the two is there, or that it can't be used
pub data Derivation : Type 0 where
  derives : CertificateValue → Derivation
  fails : Pair → RuleName → Derivation
  missing : Side → Derivation
  unusable : Side → Derivation

-- The certificate is the one of the pairs that are reached, and it is right; or the pair is the first that fails a rule, and no certificate
-- exists; or the refusal is the one that applies.
abbrev pub IsDerivationOf : SchemaValue → (derived base : Text) → Derivation → Type 0
IsDerivationOf s derived base (derives c) = IsDerived s derived base c × IsCertificate s c
IsDerivationOf s derived base (fails pair rule) = IsFirstFailing s derived base pair rule × (HasCertificate s derived base → ⊥)
IsDerivationOf s derived base (missing side) = derive_refusal s derived base ≡ Some (Missing side)
IsDerivationOf s derived base (unusable side) = derive_refusal s derived base ≡ Some (Unusable side)

-- a certificate by its text and the number of its pairs, and a pair and a rule by their texts
abbrev pub derive_answer : SchemaValue → Derivation → DeriveValue
derive_answer s (derives c) = replies.derived (text_of (written_by s c)) (length c.items + length c.kids)
derive_answer s (fails pair rule) = replies.refuted (pair_text s pair) (rule_text rule)
derive_answer s (missing side) = replies.missing
derive_answer s (unusable side) = replies.unusable

-- The answer tells what comes of the two profiles.
pub record IsDeriveAnswer (s : SchemaValue) (derived base : Text) (answer : DeriveValue) : Type 0 where
  pub derivation : Derivation
  pub is_derivation : IsDerivationOf s derived base derivation
  pub is_answer : answer ≡ derive_answer s derivation
