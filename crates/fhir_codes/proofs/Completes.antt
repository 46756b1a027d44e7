-- Complete code systems, by their urls.
use Rattle.std.proofs.Common.{◌≡◌, List, [], ◌∷◌, ◌++◌, Bool, true, false, ◌&&◌, ◌||◌, if◌then◌else◌, Option, None, Some, is_some, refl, sym, ◌∙◌, ap}
use Rattle.std.specs.List.{list_any}
use Rattle.std.specs.Map.{keys_of}
use Rattle.std.specs.Option.{option_map_or, option_and_then}
use Rattle.std.specs.Str.{bytes_eq}
use Rattle.std.proofs.lemmas.List.Folds.{list_any-append}
use Rattle.std.proofs.lemmas.Map.Made.{is_some-lookup}
use Rattle.std.proofs.lemmas.Slice.Eq.{bytes_eq-Decides}
use Rattle.fhir_json.specs.Tree.{Text, Tree}
use Rattle.fhir_names.specs.Places.{Places, place_of, Puts}
use Rattle.fhir_package.specs.declared.kind.Kind.TheVariants.{CodeSystem}
use Rattle.fhir_package.specs.Definitions.{Definitions, at_url}
use Rattle.fhir_codes.specs.CodeSystems.{is_complete}
use Rattle.fhir_codes.specs.ValueSets.{is_version_of, code_system}
use Rattle.fhir_codes.specs.Placing.{complete_at, Completes, AreComplete}

placed : (same known complete : Bool) (old : Bool) → (same ≡ true → complete ≡ true) → old ≡ (known && complete) → (same || old) ≡ ((known || (same || false)) && complete)
placed true true complete old h e = sym (h refl)
placed true false complete old h e = sym (h refl)
placed false true complete old h e = e
placed false false complete old h e = e

unplaced : (same known complete : Bool) (old : Bool) → (same ≡ true → complete ≡ false) → old ≡ (known && complete) → old ≡ ((known || (same || false)) && complete)
unplaced true true complete old h e = e
unplaced true false complete old h e = e ∙ sym (h refl)
unplaced false true complete old h e = e
unplaced false false complete old h e = e

chosen_some : {A : Type 0} (b : Bool) (x : A) (o : Option A) → is_some (if b then Some x else o) ≡ (b || is_some o)
chosen_some true x o = refl
chosen_some false x o = refl

one_url : (p : Definitions) (url name : Text) (b : Bool) → complete_at p name ≡ b → bytes_eq url name ≡ true → complete_at p url ≡ b
one_url p url name b is same = ap (complete_at p) ((bytes_eq-Decides url name).0 same) ∙ is

pub completes_put : (p : Definitions) (old new : Places) (urls : List Text) (name : Text) → complete_at p name ≡ true → Completes p old urls → Puts old new name 0 → Completes p new (urls ++ name ∷ [])
completes_put p old new urls name is before puts url =
    ap is_some (puts url)
    ∙ chosen_some (bytes_eq url name) 0 (place_of old url)
    ∙ placed (bytes_eq url name) (list_any (bytes_eq url) urls) (complete_at p url) (is_some (place_of old url)) (one_url p url name true is) (before url)
    ∙ ap (λ b. b && complete_at p url) (sym (list_any-append (bytes_eq url) urls (name ∷ [])))

pub completes_more : (p : Definitions) (old : Places) (urls : List Text) (name : Text) → complete_at p name ≡ false → Completes p old urls → Completes p old (urls ++ name ∷ [])
completes_more p old urls name is before url =
    unplaced (bytes_eq url name) (list_any (bytes_eq url) urls) (complete_at p url) (is_some (place_of old url)) (one_url p url name false is) (before url)
    ∙ ap (λ b. b && complete_at p url) (sym (list_any-append (bytes_eq url) urls (name ∷ [])))

-- what isn't there isn't complete
there : (o : Option Tree) → (is_some o && option_map_or is_complete o false) ≡ option_map_or is_complete o false
there None = refl
there (Some t) = refl

pub completes_all : (p : Definitions) (urls : Places) → Completes p urls (keys_of p.code_systems) → AreComplete p urls
completes_all p urls all url =
    all url
    ∙ ap (λ b. b && complete_at p url) (sym (is_some-lookup (bytes_eq url) p.code_systems))
    ∙ there (at_url CodeSystem url p)

of_version : (test : Tree → Bool) (o : Option Tree) → (is_some (option_and_then (λ s. if test s then Some s else None) o) && option_map_or is_complete o false) ≡ option_map_or is_complete (option_and_then (λ s. if test s then Some s else None) o) false
of_version test None = refl
of_version test (Some s) = one (test s) s
  where
    one : (b : Bool) (s : Tree) → (is_some (if b then Some s else None) && is_complete s) ≡ option_map_or is_complete (if b then Some s else None) false
    one true s = refl
    one false s = refl

pub complete_of_version : (p : Definitions) (t : Tree) (url : Text) → (is_some (code_system p t url) && complete_at p url) ≡ option_map_or is_complete (code_system p t url) false
complete_of_version p t url = of_version (is_version_of p t) (at_url CodeSystem url p)
