-- Value sets by their places in a package, and what has been found at these so far (used by private contracts alone).
use Rattle.std.specs.Prelude.{◌≡◌, ℕ, List, [], Option, Some, is_some, Bool, false, ◌&&◌}
use Rattle.std.specs.Option.{option_map, option_map_or, option_and_then}
use Rattle.std.specs.List.{slice_get, position_from, list_all, list_any}
use Rattle.std.specs.Map.{keys_of}
use Rattle.std.specs.Result.{result_ok}
use Rattle.std.specs.Str.{bytes_eq}
use Rattle.fhir_json.specs.Tree.{Text, Tree}
use Rattle.fhir_names.specs.Canonicals.{read_canonical}
use Rattle.fhir_names.specs.Places.{Places, place_of}
use Rattle.fhir_package.specs.declared.kind.Kind.TheVariants.{ValueSet, CodeSystem}
use Rattle.fhir_package.specs.Definitions.{Definitions, at_url}
use Rattle.fhir_package.specs.Canonical.{named_by}
use Rattle.fhir_codes.specs.Concepts.{Concepts, of_system}
use Rattle.fhir_codes.specs.CodeSystems.{is_complete, codes_defined}
use Rattle.fhir_codes.specs.ValueSets.{sets_named}

-- ---- places

-- the place of the first value set under a url
abbrev pub place_at : Definitions → Text → Option ℕ
place_at p url = position_from (bytes_eq url) 0 (keys_of p.value_sets)

-- the place of the value set that a canonical names
abbrev pub place_named : Definitions → Text → Option ℕ
place_named p canonical =
    option_and_then
    (λ t. option_and_then (λ r. place_at p r.0) (result_ok (read_canonical canonical)))
    (named_by ValueSet canonical p)

abbrev pub tree_at : Definitions → ℕ → Option Tree
tree_at p place = option_map (λ e. e.1) (slice_get p.value_sets place)

-- ---- what has been found so far

-- at each place the concepts, if they have been found
abbrev pub Found : Type 0
Found = List (Option Concepts)

abbrev pub found_at : Found → ℕ → Option Concepts
found_at sets place = option_and_then (λ s. s) (slice_get sets place)

abbrev pub found_concepts : Definitions → Found → Text → Option Concepts
found_concepts p sets canonical = option_and_then (found_at sets) (place_named p canonical)

abbrev pub is_known : Definitions → Found → Text → Bool
is_known p sets canonical = is_some (found_concepts p sets canonical)

-- the value sets that an include names are known
abbrev pub names_known : Definitions → Found → Tree → Bool
names_known p sets t = list_all (is_known p sets) (sets_named t)

-- ---- whole code systems

abbrev pub complete_at : Definitions → Text → Bool
complete_at p url = option_map_or is_complete (at_url CodeSystem url p) false

-- of these urls the complete systems' have a place
abbrev pub Completes : Definitions → Places → List Text → Type 0
Completes p urls known = (url : Text) → is_some (place_of urls url) ≡ (list_any (bytes_eq url) known && complete_at p url)

abbrev pub AreComplete : Definitions → Places → Type 0
AreComplete p urls = (url : Text) → is_some (place_of urls url) ≡ complete_at p url

-- all that the code system under a url defines
abbrev pub whole_of : Definitions → Text → Concepts
whole_of p url = of_system url (option_map_or codes_defined (at_url CodeSystem url p) [])

-- what is kept of them is right
abbrev pub AreWhole : Definitions → Places → List Concepts → Type 0
AreWhole p urls whole = (url : Text) (place : ℕ) → place_of urls url ≡ Some place → slice_get whole place ≡ Some (whole_of p url)
