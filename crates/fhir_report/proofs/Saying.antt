-- What is right of files, from what is right of their survey.
use Rattle.std.proofs.Common.{◌≡◌, List, [], ◌∷◌, Option, None, Some, Result, Ok, refl, sym, ap, ◌∙◌, subst}
use Rattle.std.specs.Prelude.{◌↔◌, find, slice_get}
use Rattle.std.specs.Option.{option_or}
use Rattle.fhir_json.specs.Tree.{Text}
use Rattle.fhir_package.specs.Definitions.{Definitions}
use Rattle.fhir_package.specs.Packing.{Refusal}
use Rattle.fhir_package.specs.ReadFiles.{ReadFiles, pack_given}
use Rattle.fhir_package.specs.Surveying.{FileFault, unreadable, not_json, clash, Surveyed, survey, is_unreadable, told_by, packed_by}
use Rattle.fhir_snapshot.specs.Completing.{Numbered, IsCompletion}
use Rattle.fhir_schema.specs.Schemas.{SchemaValue, schema_of}
use Rattle.fhir_findings.specs.Clean.{AreSelectedUsable}
use Rattle.fhir_findings.specs.Finding.{selected_unusable}
use Rattle.fhir_findings.specs.Selecting.{SelectionValue}
use Rattle.fhir_report.specs.Faultless.{CertificateValue, IsRightIfAny, PromisesIfAny, IsRightBy, AreOf, IsFaultless, IsPromised}

same_ok : (p d : Definitions) → ◌≡◌ {A = Option (Result Definitions Refusal)} (Some (Ok p)) (Some (Ok d)) → p ≡ d
same_ok p d e = cc

-- ---- files that are a package

-- a fault says that there is none
refused : (fault : FileFault) (d p : Definitions) → told_by (Some fault) d ≡ Some (Ok p) → ⊥
refused (unreadable file) d p e = cc
refused (not_json file expected position) d p e = cc
refused (clash kind url file first) d p e = cc

told : (faults : List FileFault) (d p : Definitions) → told_by (option_or (find is_unreadable faults) (slice_get faults 0)) d ≡ Some (Ok p) → faults ≡ []
told [] d p e = refl
told (fault ∷ faults) d p e = by (find is_unreadable (fault ∷ faults)) e
  where
    by : (first : Option FileFault) → told_by (option_or first (Some fault)) d ≡ Some (Ok p) → fault ∷ faults ≡ []
    by None e = absurd (refused fault d p e)
    by (Some other) e = absurd (refused other d p e)

-- ---- what is known

-- no url that is selected leads to a definition that can't be used exactly where none is found
pub record AllUsable : Type 0 where
  pub usable : (chosen : SelectionValue) (sv : Surveyed) → selected_unusable chosen (schema_of sv.definitions) sv ≡ [] → AreSelectedUsable chosen sv.definitions
  pub listed : (chosen : SelectionValue) (sv : Surveyed) → AreSelectedUsable chosen sv.definitions → selected_unusable chosen (schema_of sv.definitions) sv ≡ []

-- what completes a package is one
abbrev pub OneCompletion : Type 0
OneCompletion = (old one other : Definitions) (faults more : Numbered) → IsCompletion old one faults → IsCompletion old other more → one ≡ other

module _ (files : ReadFiles) (packed : packed_by (survey files) ≡ pack_given files) where
  packed_as : (survey files).faults ≡ [] → pack_given files ≡ Some (Ok (survey files).definitions)
  packed_as none =
      sym packed
      ∙ ap (λ (faults : List FileFault). told_by (option_or (find is_unreadable faults) (slice_get faults 0)) (survey files).definitions) none

  no_faults : (p : Definitions) → pack_given files ≡ Some (Ok p) → (survey files).faults ≡ []
  no_faults p is = told (survey files).faults (survey files).definitions p (packed ∙ is)

  module _ (sv : Surveyed) (s : SchemaValue) (selection : SelectionValue) (certificate : Option CertificateValue) (of : AreOf files sv s) where
    -- the survey has the faults of that of the files
    none_of : sv.faults ≡ [] → (survey files).faults ≡ []
    none_of none = sym (ap (λ (v : Surveyed). v.faults) of.survey_is) ∙ none

    pub promised : IsRightBy selection s sv certificate → PromisesIfAny s certificate → IsPromised files certificate
    promised right promises =
        ((survey files).definitions, sv.definitions, packed_as (none_of right.0), (of.faults, of.completed), subst (λ t. PromisesIfAny t certificate) of.schema_is promises)

    pub faultless : AllUsable → OneCompletion → IsRightBy selection s sv certificate ↔ IsFaultless selection files certificate
    faultless usable one = (all_right, is_right)
      where
        all_right : IsRightBy selection s sv certificate → IsFaultless selection files certificate
        all_right right =
            let all : selected_unusable selection (schema_of sv.definitions) sv ≡ [] = subst (λ t. selected_unusable selection t sv ≡ []) of.schema_is right.1 in
            ((survey files).definitions, sv.definitions, packed_as (none_of right.0), (of.faults, of.completed), usable.usable selection sv all, subst (λ t. IsRightIfAny t certificate) of.schema_is right.2)

        is_right : IsFaultless selection files certificate → IsRightBy selection s sv certificate
        is_right is =
            let none : (survey files).faults ≡ [] = no_faults is.0 is.2 in
            let whole : is.0 ≡ (survey files).definitions = same_ok is.0 (survey files).definitions (sym is.2 ∙ packed_as none) in
            let same : is.1 ≡ sv.definitions = one (survey files).definitions is.1 sv.definitions is.3.0 of.faults (subst (λ p. IsCompletion p is.1 is.3.0) whole is.3.1) of.completed in (
              ap (λ (v : Surveyed). v.faults) of.survey_is ∙ none,
              subst (λ t. selected_unusable selection t sv ≡ []) (sym of.schema_is) (usable.listed selection sv (subst (λ p. AreSelectedUsable selection p) same is.4)),
              subst (λ t. IsRightIfAny t certificate) (sym of.schema_is) (subst (λ p. IsRightIfAny (schema_of p) certificate) same is.5),
            )
