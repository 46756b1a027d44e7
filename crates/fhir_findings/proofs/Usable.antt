-- No definition is listed exactly where each can be used.
use Rattle.std.proofs.Common.{◌≡◌, ℕ, suc, List, [], ◌∷◌, ◌++◌, filter, Bool, true, false, cond, get_or, Option, None, Some, refl, sym, ap, ap₂, subst, ◌∙◌, ◌⊎◌, inl, inr}
use Rattle.std.proofs.lemmas.List.Elements.{filter-append}
use Rattle.std.specs.Map.{keys_of}
use Rattle.std.specs.Option.{option_map_or, option_and_then}
use Rattle.std.specs.Str.{bytes_eq}
use Rattle.std.proofs.lemmas.Slice.Eq.{bytes_eq-Decides}
use Rattle.fhir_json.specs.Tree.{Text, Tree}
use Rattle.fhir_elements.specs.declared.reason.Reason.{Reason}
use Rattle.fhir_definition.specs.Definition.{definitions_from}
use Rattle.fhir_package.specs.declared.kind.Kind.TheVariants.{StructureDefinition}
use Rattle.fhir_package.specs.Definitions.{Definitions}
use Rattle.fhir_package.specs.Surveying.{Surveyed}
use Rattle.fhir_schema.specs.Settling.{reason_at}
use Rattle.fhir_nodes.specs.Urls.{url_place}
use Rattle.fhir_schema.specs.Schemas.{SchemaValue, schema_of, unusable}
use Rattle.fhir_findings.specs.Clean.{AreUsable, AreSelectedUsable}
use Rattle.fhir_findings.specs.Selecting.{SelectionValue, is_selected}
use Rattle.fhir_findings.specs.Finding.{UnusableValue, unusable_at, unusable_from, all_unusable, selected_unusable}

no_parts : {A : Type 0} (xs ys : List A) → xs ++ ys ≡ [] → (xs ≡ []) × (ys ≡ [])
no_parts [] ys e = (refl, e)
no_parts (x ∷ xs) ys e = cc

not_listed : (file url : Text) (o : Option Reason) → option_map_or {U = List UnusableValue} (λ reason. (file, url, reason) ∷ []) o [] ≡ [] → o ≡ None
not_listed file url None e = refl
not_listed file url (Some reason) e = cc

module _ (s : SchemaValue) (files : List Text) (url : Text) where
  there : (n k : ℕ) (es : List (Text × Tree)) → unusable_from s files k (keys_of es) ≡ []
      → (url_place (definitions_from n es) url ≡ None) ⊎ (unusable s url ≡ None)
  there n k [] e = inl refl
  there n k (x ∷ es) e =
      let parts = no_parts (unusable_at s (get_or files k []) x.0) (unusable_from s files (suc k) (keys_of es)) e in
      by (bytes_eq url x.0) refl parts.0 (there (suc n) (suc k) es parts.1)
    where
      by : (b : Bool) → bytes_eq url x.0 ≡ b → unusable_at s (get_or files k []) x.0 ≡ []
          → (url_place (definitions_from (suc n) es) url ≡ None) ⊎ (unusable s url ≡ None)
          → (cond b (Some n) (url_place (definitions_from (suc n) es) url) ≡ None) ⊎ (unusable s url ≡ None)
      by true is none behind =
          inr (ap (unusable s) ((bytes_eq-Decides url x.0).0 is) ∙ not_listed (get_or files k []) x.0 (unusable s x.0) none)
      by false is none behind = behind

found : (s : SchemaValue) (url : Text) → (url_place s.definitions url ≡ None) ⊎ (unusable s url ≡ None) → unusable s url ≡ None
found s url (inl none) = ap (option_and_then (reason_at s.reasons)) none
found s url (inr none) = none

pub all_usable : (survey : Surveyed) → all_unusable (schema_of survey.definitions) survey ≡ []
    → AreUsable (schema_of survey.definitions)
all_usable survey none url =
    found (schema_of survey.definitions) url
    (there (schema_of survey.definitions) survey.sources.structure_definitions url 0 0 survey.definitions.structure_definitions none)

none_from : (s : SchemaValue) → AreUsable s → (files : List Text) (k : ℕ) (urls : List Text) → unusable_from s files k urls ≡ []
none_from s usable files k [] = refl
none_from s usable files k (url ∷ urls) =
    ap₂ (λ (xs ys : List UnusableValue). xs ++ ys)
    (ap (λ (o : Option Reason). option_map_or {U = List UnusableValue} (λ reason. (get_or files k [], url, reason) ∷ []) o []) (usable url))
    (none_from s usable files (suc k) urls)

pub none_listed : (survey : Surveyed) → AreUsable (schema_of survey.definitions)
    → all_unusable (schema_of survey.definitions) survey ≡ []
none_listed survey usable =
    none_from (schema_of survey.definitions) usable survey.sources.structure_definitions 0 (keys_of survey.definitions.structure_definitions)

-- ---- of those that are selected

module _ (s : SchemaValue) (files : List Text) (is : Text → Bool) where
  abbrev of_chosen : UnusableValue → Bool
  of_chosen u = is u.1

  not_kept : (file url : Text) → is url ≡ true → (o : Option Reason)
      → filter of_chosen (option_map_or {U = List UnusableValue} (λ reason. (file, url, reason) ∷ []) o []) ≡ [] → o ≡ None
  not_kept file url chosen None e = refl
  not_kept file url chosen (Some reason) e =
      let kept : ◌≡◌ {A = List UnusableValue} ((file, url, reason) ∷ []) [] = sym (ap (λ (b : Bool). cond b ((file, url, reason) ∷ []) []) chosen) ∙ e in
      absurd cc

  chosen_there : (url : Text) → is url ≡ true → (n k : ℕ) (es : List (Text × Tree)) → filter of_chosen (unusable_from s files k (keys_of es)) ≡ []
      → (url_place (definitions_from n es) url ≡ None) ⊎ (unusable s url ≡ None)
  chosen_there url chosen n k [] e = inl refl
  chosen_there url chosen n k (x ∷ es) e =
      let here = unusable_at s (get_or files k []) x.0 in
      let behind = unusable_from s files (suc k) (keys_of es) in
      let parts = no_parts (filter of_chosen here) (filter of_chosen behind) (sym (filter-append of_chosen here behind) ∙ e) in
      by (bytes_eq url x.0) refl parts.0 (chosen_there url chosen (suc n) (suc k) es parts.1)
    where
      by : (b : Bool) → bytes_eq url x.0 ≡ b → filter of_chosen (unusable_at s (get_or files k []) x.0) ≡ []
          → (url_place (definitions_from (suc n) es) url ≡ None) ⊎ (unusable s url ≡ None)
          → (cond b (Some n) (url_place (definitions_from (suc n) es) url) ≡ None) ⊎ (unusable s url ≡ None)
      by true same none behind =
          inr (not_kept (get_or files k []) url chosen (unusable s url)
          (subst (λ u. filter of_chosen (unusable_at s (get_or files k []) u) ≡ []) (sym ((bytes_eq-Decides url x.0).0 same)) none))
      by false same none behind = behind

  none_kept : (file url : Text) (o : Option Reason) (b : Bool) → is url ≡ b → (b ≡ true → o ≡ None)
      → filter of_chosen (option_map_or {U = List UnusableValue} (λ reason. (file, url, reason) ∷ []) o []) ≡ []
  none_kept file url None b of_b usable = refl
  none_kept file url (Some reason) true of_b usable = let not : Some reason ≡ None = usable refl in absurd cc
  none_kept file url (Some reason) false of_b usable = ap (λ (b : Bool). cond b ((file, url, reason) ∷ []) []) of_b

  none_chosen : ((url : Text) → is url ≡ true → unusable s url ≡ None) → (k : ℕ) (urls : List Text) → filter of_chosen (unusable_from s files k urls) ≡ []
  none_chosen usable k [] = refl
  none_chosen usable k (url ∷ urls) =
      filter-append of_chosen (unusable_at s (get_or files k []) url) (unusable_from s files (suc k) urls)
      ∙ ap₂ (λ (xs ys : List UnusableValue). xs ++ ys) (none_kept (get_or files k []) url (unusable s url) (is url) refl (usable url)) (none_chosen usable (suc k) urls)

abbrev chosen_by : SelectionValue → Definitions → Text → Bool
chosen_by selection p url = is_selected selection p StructureDefinition url

pub selected_usable : (selection : SelectionValue) (survey : Surveyed) → selected_unusable selection (schema_of survey.definitions) survey ≡ []
    → AreSelectedUsable selection survey.definitions
selected_usable selection survey none url chosen =
    found (schema_of survey.definitions) url
    (chosen_there (schema_of survey.definitions) survey.sources.structure_definitions (chosen_by selection survey.definitions) url chosen 0 0
    survey.definitions.structure_definitions none)

pub none_selected : (selection : SelectionValue) (survey : Surveyed) → AreSelectedUsable selection survey.definitions
    → selected_unusable selection (schema_of survey.definitions) survey ≡ []
none_selected selection survey usable =
    none_chosen (schema_of survey.definitions) survey.sources.structure_definitions (chosen_by selection survey.definitions) usable 0
    (keys_of survey.definitions.structure_definitions)
