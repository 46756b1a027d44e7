-- Words that the contracts of private functions alone cite: places at which keys and definitions stand.
use Rattle.std.specs.Prelude.{◌≡◌, ℕ, suc, List, [], ◌∷◌, ◌++◌, Option, Some, if◌then◌else◌}
use Rattle.std.specs.List.{slice_get}
use Rattle.std.specs.Option.{option_map_or}
use Rattle.std.specs.Map.{lookup}
use Rattle.std.specs.Str.{bytes_eq}
use Rattle.fhir_json.specs.Tree.{Text, Tree}
use Rattle.fhir_names.specs.Places.{Places, place_of}
use Rattle.fhir_package.specs.declared.kind.Kind.{Kind}
use Rattle.fhir_package.specs.Definitions.{ByUrl, Definitions, of_kind, with_kind}
use Rattle.fhir_reach.specs.Keys.{KeyValue, of_url, of_code}
use Rattle.fhir_reach.specs.Naming.{structure_keys}
use Rattle.fhir_reach.specs.Reach.{is_type_of, is_held}

-- ---- keys

-- the place that a key has among those of urls and of codes
abbrev pub place_of_key : Places → Places → KeyValue → Option ℕ
place_of_key urls codes (of_url url) = place_of urls url
place_of_key urls codes (of_code code) = place_of codes code

-- each of the keys has the place at which it stands
abbrev pub MarksKeys : Places → Places → List KeyValue → Type 0
MarksKeys urls codes keys = (n : ℕ) (k : KeyValue) → slice_get keys n ≡ Some k → place_of_key urls codes k ≡ Some n

-- ---- definitions of types

-- places under codes
abbrev pub PlacesByCode : Type 0
PlacesByCode = List (Text × List ℕ)

abbrev pub places_under : PlacesByCode → Text → List ℕ
places_under places code = option_map_or (λ ns. ns) (lookup (bytes_eq code) places) []

-- one more place under a code, behind the others
abbrev pub AddsPlace : PlacesByCode → PlacesByCode → Text → ℕ → Type 0
AddsPlace old new code place =
    (other : Text) → places_under new other ≡ (if bytes_eq other code then places_under old other ++ place ∷ [] else places_under old other)

-- the places of the definitions of a type, where the places of the entries begin at a number
abbrev pub type_places : Text → ℕ → ByUrl → List ℕ
type_places code n [] = []
type_places code n (e ∷ es) = if is_type_of code e.1 then n ∷ type_places code (suc n) es else type_places code (suc n) es

-- under each code stand the places of its type's definitions
abbrev pub HasPlaces : PlacesByCode → ByUrl → Type 0
HasPlaces places es = (code : Text) → places_under places code ≡ type_places code 0 es

-- a definition's place stands under the code of the type that it defines, if it defines one
abbrev pub AddsIfType : PlacesByCode → PlacesByCode → Tree → ℕ → Type 0
AddsIfType old new t place =
    (code : Text) → places_under new code ≡ (if is_type_of code t then places_under old code ++ place ∷ [] else places_under old code)

-- what the definition at a place names
abbrev pub keys_at_place : ByUrl → ℕ → List KeyValue
keys_at_place es place = option_map_or (λ e. structure_keys e.1) (slice_get es place) []

-- ---- restrictions

-- an entry of a kind behind the others, if a key stands for it
abbrev pub with_entry : List KeyValue → Kind → Text × Tree → Definitions → Definitions
with_entry keys kind e p = if is_held keys kind e.0 e.1 then with_kind kind (of_kind kind p ++ e ∷ []) p else p
