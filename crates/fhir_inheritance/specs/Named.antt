-- Things under names, as contracts see them.
use Rattle.std.specs.Prelude.{◌≡◌, List, [], ◌∷◌, ◌++◌, Option, if◌then◌else◌}
use Rattle.std.specs.Option.{option_map_or}
use Rattle.std.specs.Map.{lookup}
use Rattle.std.specs.Str.{bytes_eq}
use Rattle.fhir_json.specs.Tree.{Text}

-- the name has this thing or none, and each other name the one that it had
abbrev pub Gets : {A : Type 0} → List (Text × A) → List (Text × A) → Text → Option A → Type 0
Gets {A} old new name thing =
    (other : Text) → lookup (bytes_eq other) new ≡ (if bytes_eq other name then thing else lookup (bytes_eq other) old)

-- texts under names
abbrev pub Groups : Type 0
Groups = List (Text × List Text)

-- those under a name, in order
abbrev pub texts_under : Groups → Text → List Text
texts_under groups name = option_map_or (λ texts. texts) (lookup (bytes_eq name) groups) []

-- one more under a name, behind the others
abbrev pub Adds : Groups → Groups → Text → Text → Type 0
Adds old new name text =
    (other : Text) → texts_under new other ≡ (if bytes_eq other name then texts_under old other ++ text ∷ [] else texts_under old other)
