-- Which value sets OLD and NEW don't have alike, with all that they rest on (FHIR R4, ValueSet, compose).
use Rattle.std.specs.Prelude.{◌≡◌, ◌↔◌, ◌++◌, ℕ, List, map, Bool, true, false, not, ◌&&◌, ◌||◌, Option, Some, is_none, codes, IsTrue}
use Rattle.std.specs.Option.{option_map_or}
use Rattle.std.specs.List.{list_any, flat_map, filter_map}
use Rattle.fhir_json.specs.Tree.{Text, Tree}
use Rattle.fhir_json.specs.Fields.{text_in}
use Rattle.fhir_package.specs.declared.kind.Kind.TheVariants.{ValueSet, CodeSystem}
use Rattle.fhir_package.specs.Definitions.{Definitions}
use Rattle.fhir_codes.specs.ValueSets.{sets_named, part_in}
use Rattle.fhir_alike.specs.Differing.{is_same}
use Rattle.fhir_alike.specs.Naming.{place_named, name_stays}
use Rattle.fhir_alike.specs.Spreading.{Edges, Reaches, is_marked, IsSpread, told_at}

-- ---- what a value set rests on

-- the places of the value sets that includes name
abbrev pub places_in : Definitions → List Tree → List ℕ
places_in old ts = filter_map (place_named ValueSet old) (flat_map sets_named ts)

abbrev pub leads_to : Definitions → Tree → List ℕ
leads_to old t = places_in old (part_in (codes "include") t) ++ places_in old (part_in (codes "exclude") t)

abbrev pub set_edges : Definitions → Edges
set_edges old = map (λ e. leads_to old e.1) old.value_sets

module _ (old new : Definitions) where
  -- ---- one include

  -- its code system is another one
  abbrev pub system_differs : Tree → Bool
  system_differs t = option_map_or (λ system. not (is_same CodeSystem system old new)) (text_in (codes "system") t) false

  -- one of the value sets that it names is there in one of the packages alone
  abbrev pub name_differs : Tree → Bool
  name_differs t = list_any (λ canonical. not (name_stays ValueSet old new canonical)) (sets_named t)

  abbrev pub include_differs : Tree → Bool
  include_differs t = system_differs t || name_differs t

  abbrev pub some_differs : List Tree → Bool
  some_differs ts = list_any include_differs ts

  -- ---- one value set

  -- it is another one by itself
  abbrev pub differs_itself : Text × Tree → Bool
  differs_itself e =
      not (is_same ValueSet e.0 old new) || (some_differs (part_in (codes "include") e.1) || some_differs (part_in (codes "exclude") e.1))

  abbrev pub set_marks : List Bool
  set_marks = map differs_itself old.value_sets

  -- what is told of each: one that differs by itself and on which it rests
  abbrev pub AreChanges : List (Option ℕ) → Type 0
  AreChanges told = IsSpread (set_edges old) set_marks told

  -- ---- what a canonical means

  -- it rests on one that differs by itself, or is one
  abbrev pub IsChanged : ℕ → Type 0
  IsChanged place = (other : ℕ) × Reaches (set_edges old) place other × (is_marked set_marks other ≡ true)

  -- A canonical means the same in both: no value set, or one that is equal in both with all that it rests on.
  abbrev pub IsKept : Text → Type 0
  IsKept canonical =
      IsTrue (name_stays ValueSet old new canonical) × ((place : ℕ) → place_named ValueSet old canonical ≡ Some place → IsChanged place → ⊥)

  -- a test of it
  abbrev pub TellsKept : (Text → Bool) → Type 0
  TellsKept keeps = (canonical : Text) → IsTrue (keeps canonical) ↔ IsKept canonical

  -- by what is told
  abbrev pub kept_by : List (Option ℕ) → Text → Bool
  kept_by told canonical =
      name_stays ValueSet old new canonical && option_map_or (λ place. is_none (told_at told place)) (place_named ValueSet old canonical) true
