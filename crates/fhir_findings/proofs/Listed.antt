-- Faults that are told one after the other.
use Rattle.std.proofs.Common.{◌≡◌, ℕ, suc, get_or, Bool, true, false, cond, List, [], ◌∷◌, ◌++◌, map, filter, Option, None, Some, refl, sym, ap, ◌∙◌, append_assoc}
use Rattle.std.specs.Option.{option_map_or}
use Rattle.std.proofs.lemmas.List.{append-nil, map-append}
use Rattle.std.proofs.lemmas.List.Elements.{filter-append}
use Rattle.fhir_json.specs.Tree.{Text}
use Rattle.fhir_elements.specs.declared.reason.Reason.{Reason}
use Rattle.fhir_schema.specs.Schemas.{SchemaValue, unusable}
use Rattle.fhir_package.specs.declared.kind.Kind.TheVariants.{StructureDefinition}
use Rattle.fhir_package.specs.Definitions.{Definitions}
use Rattle.fhir_findings.specs.Selecting.{SelectionValue, is_selected}
use Rattle.fhir_findings.specs.Finding.{UnusableValue, unusable_at, unusable_from}

-- some are told, and then the first of the others
pub passed : {A B : Type 0} (view : A → B) (before told : List B) (xs ys zs : List A) → told ≡ before ++ map view ys → xs ≡ ys ++ zs
    → told ++ map view zs ≡ before ++ map view xs
passed view before told xs ys zs is split =
    ap (λ (ts : List _). ts ++ map view zs) is ∙ append_assoc before (map view ys) (map view zs)
    ∙ ap (λ (ts : List _). before ++ ts) (sym (map-append view ys zs) ∙ ap (map view) (sym split))

-- ---- those that are selected

no_choice : {A : Type 0} (b : Bool) (x : A) → x ≡ cond b x x
no_choice true x = refl
no_choice false x = refl

pub kept_at : (sel : Text → Bool) (s : SchemaValue) (file url : Text) → filter (λ u. sel u.1) (unusable_at s file url) ≡ cond (sel url) (unusable_at s file url) []
kept_at sel s file url = by (unusable s url)
  where
    by : (o : Option Reason)
        → filter (λ u. sel u.1) (option_map_or {U = List UnusableValue} (λ reason. (file, url, reason) ∷ []) o [])
        ≡ cond (sel url) (option_map_or {U = List UnusableValue} (λ reason. (file, url, reason) ∷ []) o []) []
    by None = no_choice (sel url) []
    by (Some reason) = refl

-- one that isn't is left out
pub left_out : (sel : Text → Bool) (s : SchemaValue) (file url : Text) (old : List UnusableValue) → sel url ≡ false → old ≡ old ++ filter (λ u. sel u.1) (unusable_at s file url)
left_out sel s file url old off =
    sym (append-nil old) ∙ ap (λ (l : List UnusableValue). old ++ l) (sym (kept_at sel s file url ∙ ap (λ (b : Bool). cond b (unusable_at s file url) []) off))

pub kept_in : (sel : Text → Bool) (s : SchemaValue) (file url : Text) (old : List UnusableValue) → sel url ≡ true
    → old ++ unusable_at s file url ≡ old ++ filter (λ u. sel u.1) (unusable_at s file url)
kept_in sel s file url old on =
    ap (λ (l : List UnusableValue). old ++ l) (sym (kept_at sel s file url ∙ ap (λ (b : Bool). cond b (unusable_at s file url) []) on))

-- those at urls of which the first has that place
abbrev pub kept_from : SelectionValue → Definitions → SchemaValue → List Text → ℕ → List Text → List UnusableValue
kept_from selection p s files place [] = []
kept_from selection p s files place (url ∷ urls) =
    filter (λ u. is_selected selection p StructureDefinition u.1) (unusable_at s (get_or files place []) url) ++ kept_from selection p s files (suc place) urls

pub kept_is : (selection : SelectionValue) (p : Definitions) (s : SchemaValue) (files : List Text) (place : ℕ) (urls : List Text)
    → kept_from selection p s files place urls ≡ filter (λ u. is_selected selection p StructureDefinition u.1) (unusable_from s files place urls)
kept_is selection p s files place [] = refl
kept_is selection p s files place (url ∷ urls) =
    let sel : UnusableValue → Bool = λ u. is_selected selection p StructureDefinition u.1 in
    ap (λ (l : List UnusableValue). filter sel (unusable_at s (get_or files place []) url) ++ l) (kept_is selection p s files (suc place) urls)
    ∙ sym (filter-append sel (unusable_at s (get_or files place []) url) (unusable_from s files (suc place) urls))

pub all_kept : (xs : List UnusableValue) → filter (λ u. true) xs ≡ xs
all_kept [] = refl
all_kept (x ∷ xs) = ap (λ (l : List UnusableValue). x ∷ l) (all_kept xs)
