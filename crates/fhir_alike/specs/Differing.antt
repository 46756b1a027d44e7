-- Which definitions OLD and NEW don't have alike.
use Rattle.std.specs.Prelude.{◌≡◌, List, Bool, true, false, not, ◌&&◌, Option, None, Some, is_some}
use Rattle.fhir_json.specs.Tree.{Text, Tree}
use Rattle.fhir_json.specs.Sound.{is_among}
use Rattle.fhir_names.specs.Places.{Places, place_of}
use Rattle.fhir_matching.specs.Equality.{equal}
use Rattle.fhir_package.specs.declared.kind.Kind.{Kind}
use Rattle.fhir_package.specs.Definitions.{Definitions, at_url}

-- both are there and equal, or neither is there
abbrev pub same_tree : Option Tree → Option Tree → Bool
same_tree (Some a) (Some b) = equal a b
same_tree None None = true
same_tree _ _ = false

-- both packages have one definition of a kind at a url, or none
abbrev pub is_same : Kind → Text → Definitions → Definitions → Bool
is_same kind url old new = same_tree (at_url kind url old) (at_url kind url new)

-- the urls at which they don't
abbrev pub Differ : Kind → Definitions → Definitions → Places → Type 0
Differ kind old new urls = (url : Text) → is_some (place_of urls url) ≡ not (is_same kind url old new)

-- those among some urls (used by private contracts alone)
abbrev pub DifferAmong : Kind → Definitions → Definitions → List Text → Places → Type 0
DifferAmong kind old new seen urls = (url : Text) → is_some (place_of urls url) ≡ (is_among url seen && not (is_same kind url old new))
