-- What it is that all profiles narrow, from what is told of each.
use Rattle.std.proofs.Common.{◌≡◌, ◌↔◌, ℕ, map, true, List, [], ◌∷◌, Bool, Option, None, Some, IsTrue, ap, sym, ◌∙◌, refl}
use Rattle.std.proofs.lemmas.Bool.{false≢true, and_parts}
use Rattle.fhir_json.specs.Tree.{Text}
use Rattle.fhir_package.specs.Definitions.{Definitions}
use Rattle.fhir_package.specs.Surveying.{Surveyed}
use Rattle.fhir_schema.specs.Schemas.{SchemaValue}
use Rattle.fhir_derive_check.specs.declared.fault.DeriveFault.TheVariants.{Missing}
use Rattle.fhir_derive_check.specs.Faults.{derive_refusal}
use Rattle.fhir_derive_check.specs.Reaching.{HasCertificate}
use Rattle.fhir_audit.specs.Asked.{Placed, base_of, AreAsked, profiles_in}
use Rattle.fhir_audit.specs.Auditing.{AuditedValue, AreAudited, IsAudit, are_narrowing, NarrowsBase, EachNarrows, AllNarrow}
use Rattle.fhir_audit.specs.Verdicts.{VerdictValue, narrows, does_not_narrow, is_not_shown, cannot_be_used, has_no_base, is_narrowing, Narrows, IsSaid, IsVerdict}

module _ (given : Option (List Text)) (s : SchemaValue) where
  said : (url base : Text) (verdict : VerdictValue) → IsSaid given s url base verdict → IsTrue (is_narrowing verdict)
      → (c : _) × Narrows s url base c
  said url base (narrows c) so holds = (c, so)
  said url base (does_not_narrow pair rule resource) so holds = absurd (false≢true holds)
  said url base (is_not_shown pair rule) so holds = absurd (false≢true holds)
  said url base (cannot_be_used side) so holds = absurd (false≢true holds)
  said url base has_no_base so holds = absurd (false≢true holds)

  -- the base is there, and the profile narrows it
  narrowed : (p : Definitions) (e : Placed) (base : Option Text) (verdict : VerdictValue) → base_of p e.1.1 ≡ base → IsVerdict given s e.1.0 base verdict
      → IsTrue (is_narrowing verdict) → NarrowsBase s p e
  narrowed p e None verdict is so holds = absurd (false≢true (sym (ap is_narrowing so) ∙ holds))
  narrowed p e (Some base) verdict is so holds =
      let found = said e.1.0 base verdict so holds in (base, found.0, is, found.1)

  each : (survey : Surveyed) (es : List Placed) (told : List AuditedValue) → AreAudited given s survey es told → IsTrue (are_narrowing told)
      → EachNarrows s survey.definitions es
  each survey [] [] so holds = tt
  each survey [] (a ∷ told) so holds = absurd so
  each survey (e ∷ es) [] so holds = absurd so
  each survey (e ∷ es) (a ∷ told) so holds =
      let parts = and_parts (is_narrowing a.verdict) (are_narrowing told) holds in (
        narrowed survey.definitions e (base_of survey.definitions e.1.1) a.verdict refl so.0.is_verdict parts.0,
        each survey es told so.1 parts.1,
      )

pub all_narrow : (prefixes : List Text) (given : Option (List Text)) (s : SchemaValue) (survey : Surveyed) (told : List AuditedValue)
    → IsAudit prefixes given s survey told → IsTrue (are_narrowing told) → AllNarrow prefixes s survey.definitions
all_narrow prefixes given s survey told audit holds =
    (audit.asked, audit.are_asked, each given s survey _ told audit.are_audited holds)

-- ---- which are told, and how

pub are_urls : (given : Option (List Text)) (s : SchemaValue) (survey : Surveyed) (es : List Placed) (told : List AuditedValue)
    → AreAudited given s survey es told → map (λ a. a.url) told ≡ map (λ e. e.1.0) es
are_urls given s survey [] [] so = refl
are_urls given s survey [] (a ∷ told) so = absurd so
are_urls given s survey (e ∷ es) [] so = absurd so
are_urls given s survey (e ∷ es) (a ∷ told) so =
    ap (λ (url : Text). url ∷ map (λ x. x.url) told) so.0.url_is ∙ ap (λ (urls : List Text). e.1.0 ∷ urls) (are_urls given s survey es told so.1)

pub told_once : (prefixes : List Text) (given : Option (List Text)) (s : SchemaValue) (survey : Surveyed) (told : List AuditedValue)
    → IsAudit prefixes given s survey told
    → (asked : ℕ → Bool) × AreAsked prefixes survey.definitions asked × (map (λ a. a.url) told ≡ map (λ e. e.1.0) (profiles_in asked survey.definitions))
told_once prefixes given s survey told audit =
    (audit.asked, audit.are_asked, are_urls given s survey (profiles_in audit.asked survey.definitions) told audit.are_audited)

pub exactly : (given : Option (List Text)) (s : SchemaValue) (url base : Text) (verdict : VerdictValue) → IsSaid given s url base verdict
    → derive_refusal s url base ≡ None → (is_narrowing verdict ≡ true) ↔ HasCertificate s url base
exactly given s url base (narrows c) so usable = (λ _. so.exists, λ _. refl)
exactly given s url base (does_not_narrow pair rule resource) so usable = (λ is. absurd (false≢true is), λ has. absurd (so.0.none has))
exactly given s url base (is_not_shown pair rule) so usable = (λ is. absurd (false≢true is), λ has. absurd (so.none has))
exactly given s url base (cannot_be_used side) so usable = let never : ⊥ = cc in absurd never
exactly given s url base has_no_base so usable =
    let refused : derive_refusal s url base ≡ Some (Missing so.0) = so.1 in
    let never : ⊥ = cc in
    absurd never
