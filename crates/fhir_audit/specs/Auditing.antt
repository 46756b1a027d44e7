-- What an audit of a package is.
use Rattle.std.specs.Prelude.{◌≡◌, ℕ, List, [], ◌∷◌, Option, Some, Bool, codes}
use Rattle.std.specs.List.{list_all}
use Rattle.fhir_json.specs.Tree.{Text}
use Rattle.fhir_json.specs.Fields.{text_in}
use Rattle.fhir_package.specs.Definitions.{Definitions}
use Rattle.fhir_package.specs.Surveying.{Surveyed}
use Rattle.fhir_schema.specs.Schemas.{SchemaValue}
use Rattle.fhir_certificate.specs.Certificate.{CertificateValue}
use Rattle.fhir_audit.specs.Asked.{Placed, base_of, AreAsked, profiles_in}
use Rattle.fhir_audit.specs.Unread.{unread_of}
use Rattle.fhir_audit.specs.Verdicts.{VerdictValue, is_narrowing, Narrows, IsVerdict}

-- a profile with what is said of it
pub record AuditedValue : Type 0 where
  pub place : ℕ
  pub url : Text
  -- of its base, as it is written
  pub canonical : Option Text
  -- the url of its base, where that is there
  pub base : Option Text
  pub verdict : VerdictValue
  pub unread : List Text

-- It is said of the profile at a place.
pub record IsAudited (given : Option (List Text)) (s : SchemaValue) (survey : Surveyed) (e : Placed) (a : AuditedValue) : Type 0 where
  pub place_is : a.place ≡ e.0
  pub url_is : a.url ≡ e.1.0
  pub canonical_is : a.canonical ≡ text_in (codes "baseDefinition") e.1.1
  pub base_is : a.base ≡ base_of survey.definitions e.1.1
  pub is_verdict : IsVerdict given s e.1.0 (base_of survey.definitions e.1.1) a.verdict
  pub unread_is : a.unread ≡ unread_of given s survey e.1.0

-- Each is said of one of the profiles, in their order, and of each profile one is.
abbrev pub AreAudited : Option (List Text) → SchemaValue → Surveyed → List Placed → List AuditedValue → Type 0
AreAudited given s survey [] [] = Unit {0}
AreAudited given s survey [] (a ∷ told) = ⊥
AreAudited given s survey (e ∷ es) [] = ⊥
AreAudited given s survey (e ∷ es) (a ∷ told) = IsAudited given s survey e a × AreAudited given s survey es told

-- Each profile that is asked about is told once, in the order of the package.
pub record IsAudit (prefixes : List Text) (given : Option (List Text)) (s : SchemaValue) (survey : Surveyed) (told : List AuditedValue) : Type 0 where
  pub asked : ℕ → Bool
  pub are_asked : AreAsked prefixes survey.definitions asked
  pub are_audited : AreAudited given s survey (profiles_in asked survey.definitions) told

abbrev pub are_narrowing : List AuditedValue → Bool
are_narrowing told = list_all (λ a. is_narrowing a.verdict) told

-- ---- what it is that all of them narrow

-- The profile's base is there, and a right certificate shows that what conforms to the profile conforms to it.
abbrev pub NarrowsBase : SchemaValue → Definitions → Placed → Type 0
NarrowsBase s p e = (base : Text) × (c : CertificateValue) × (base_of p e.1.1 ≡ Some base) × Narrows s e.1.0 base c

abbrev pub EachNarrows : SchemaValue → Definitions → List Placed → Type 0
EachNarrows s p [] = Unit {0}
EachNarrows s p (e ∷ es) = NarrowsBase s p e × EachNarrows s p es

-- So it is of each profile that is asked about.
abbrev pub AllNarrow : List Text → SchemaValue → Definitions → Type 0
AllNarrow prefixes s p = (asked : ℕ → Bool) × AreAsked prefixes p asked × EachNarrows s p (profiles_in asked p)
