-- Places under names, as contracts see them.
use Rattle.std.specs.Prelude.{◌≡◌, ℕ, List, map, String, string_bytes, Option, None, Some, is_some, option_map, if◌then◌else◌}
use Rattle.std.specs.List.{position_from}
use Rattle.std.specs.Map.{lookup}
use Rattle.std.specs.Str.{bytes_eq}
use Rattle.fhir_json.specs.Tree.{Text}
use Rattle.fhir_json.specs.Sound.{is_among}

-- names, each with a place
abbrev pub Places : Type 0
Places = List (Text × ℕ)

-- the entries of a map, with each key as its bytes
abbrev pub by_name : {Y V : Type 0} → List (String Y × V) → List (Text × V)
by_name es = map (λ e. (string_bytes e.0, e.1)) es

-- the place of a name, if it has one
abbrev pub place_of : Places → Text → Option ℕ
place_of places name = lookup (bytes_eq name) places

-- the name has that place, and each other name the place that it had
abbrev pub Puts : Places → Places → Text → ℕ → Type 0
Puts old new name place =
    (other : Text) → place_of new other ≡ (if bytes_eq other name then Some place else place_of old other)

-- the name, where it had a place, has that one, and each other name the place that it had
abbrev pub Sets : Places → Places → Text → ℕ → Type 0
Sets old new name place =
    (other : Text) → place_of new other ≡ (if bytes_eq other name then option_map (λ _. place) (place_of old name) else place_of old other)

-- the name has no place, and each other name the place that it had
abbrev pub Removes : Places → Places → Text → Type 0
Removes old new name = (other : Text) → place_of new other ≡ (if bytes_eq other name then None else place_of old other)

-- each name of the list has the place at which it first stands there, and no other name has one
abbrev pub Finds : Places → List Text → Type 0
Finds places names = (name : Text) → place_of places name ≡ position_from (bytes_eq name) 0 names

-- each name of the list has some place, and no other name has one
abbrev pub Knows : Places → List Text → Type 0
Knows places names = (name : Text) → is_some (place_of places name) ≡ is_among name names
