-- What is said of a profile and its base.
use Rattle.std.specs.Prelude.{◌≡◌, ℕ, List, Bool, true, false, Option, None, Some, IfSome, IsTrue}
use Rattle.fhir_json.specs.Tree.{Text}
use Rattle.fhir_schema.specs.Schemas.{SchemaValue}
use Rattle.fhir_certificate.specs.declared.pair.Pair.{Pair}
use Rattle.fhir_certificate.specs.Certificate.{CertificateValue}
use Rattle.fhir_cert_check.specs.Checking.{IsCertificate}
use Rattle.fhir_cert_check.specs.Inclusion.{Includes}
use Rattle.fhir_cert_check.specs.Rule.{RuleName}
use Rattle.fhir_derive_check.specs.declared.fault.DeriveFault.TheVariants.{Missing, Unusable}
use Rattle.fhir_derive_check.specs.declared.fault.Side.{Side}
use Rattle.fhir_derive_check.specs.Deriving.{IsDerived}
use Rattle.fhir_derive_check.specs.Blaming.{IsToBlame}
use Rattle.fhir_derive_check.specs.Faults.{derive_refusal}
use Rattle.fhir_derive_check.specs.Reaching.{HasCertificate}
use Rattle.fhir_counter.specs.Shows.{ShowsBy, is_on_line}

-- a certificate; or the pair that is to blame with the rule that it fails, with a resource that shows that the profile doesn't narrow its base,
-- or without one; or that one of the two can't be used; or that the base isn't there
pub data VerdictValue : Type 0 where
  narrows : CertificateValue → VerdictValue
  does_not_narrow : Pair → RuleName → (resource : List ℕ) → VerdictValue
  is_not_shown : Pair → RuleName → VerdictValue
  cannot_be_used : Side → VerdictValue
  has_no_base : VerdictValue

abbrev pub is_narrowing : VerdictValue → Bool
is_narrowing (narrows c) = true
is_narrowing (does_not_narrow pair rule resource) = false
is_narrowing (is_not_shown pair rule) = false
is_narrowing (cannot_be_used side) = false
is_narrowing has_no_base = false

-- The certificate of the pairs that are reached is right, and each resource that conforms to the profile conforms to its base, whatever unread
-- rules mean that is fair.
pub record Narrows (s : SchemaValue) (url base : Text) (c : CertificateValue) : Type 0 where
  pub exists : HasCertificate s url base
  pub is_derived : IsDerived s url base c
  pub is_right : IsCertificate s c
  pub includes : Includes s url base

-- There is no certificate, and the pair is to blame, by that rule.
pub record IsRefuted (s : SchemaValue) (url base : Text) (pair : Pair) (rule : RuleName) : Type 0 where
  pub to_blame : IsToBlame s url base pair rule
  pub none : HasCertificate s url base → ⊥

-- The bytes are a resource that conforms to the profile and not to its base, where a user may vouch for unread rules; and they stand on one line.
pub record IsShownBy (given : Option (List Text)) (s : SchemaValue) (url base bytes : Text) : Type 0 where
  pub shows : ShowsBy given s url base bytes
  pub on_line : IsTrue (is_on_line bytes)

-- where there is no certificate, and a resource was found or none
abbrev pub verdict_by : Pair → RuleName → Option Text → VerdictValue
verdict_by pair rule None = is_not_shown pair rule
verdict_by pair rule (Some resource) = does_not_narrow pair rule resource

-- what was found shows it
abbrev pub IsShownVerdict : Option (List Text) → SchemaValue → (url base : Text) → Pair → RuleName → VerdictValue → Type 0
IsShownVerdict texts s url base pair rule verdict =
    (found : Option Text) × IfSome found (IsShownBy texts s url base) × (verdict ≡ verdict_by pair rule found)

-- of a profile and its base
abbrev pub IsSaid : Option (List Text) → SchemaValue → (url base : Text) → VerdictValue → Type 0
IsSaid texts s url base (narrows c) = Narrows s url base c
IsSaid texts s url base (does_not_narrow pair rule resource) = IsRefuted s url base pair rule × IsShownBy texts s url base resource
IsSaid texts s url base (is_not_shown pair rule) = IsRefuted s url base pair rule
IsSaid texts s url base (cannot_be_used side) = derive_refusal s url base ≡ Some (Unusable side)
IsSaid texts s url base has_no_base = (side : Side) × (derive_refusal s url base ≡ Some (Missing side))

-- the same where there may be no base
abbrev pub IsVerdict : Option (List Text) → SchemaValue → (url : Text) → (base : Option Text) → VerdictValue → Type 0
IsVerdict texts s url None verdict = verdict ≡ has_no_base
IsVerdict texts s url (Some base) verdict = IsSaid texts s url base verdict
