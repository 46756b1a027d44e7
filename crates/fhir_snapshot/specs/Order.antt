-- The elements of a snapshot in order (FHIR R4, Profiling, snapshots).
use Rattle.std.specs.Prelude.{◌≡◌, List, [], ◌∷◌, ◌++◌, map, filter, true, Option, None, Some}
use Rattle.fhir_json.specs.Tree.{Text}
use Rattle.fhir_elements.specs.Element.{Element}
use Rattle.fhir_package.specs.Definitions.{Definitions}
use Rattle.fhir_definition.specs.Snapshot.{up_of, is_root}
use Rattle.fhir_asking.specs.Asking.{Has}
use Rattle.fhir_overlay.specs.Overlay.{bounds_fit}
use Rattle.fhir_inheritance.specs.Keys.{key, child_id}
use Rattle.fhir_inheritance.specs.Node.{Node}
use Rattle.fhir_inheritance.specs.Inheriting.{asking}

-- the element of an id in the definition of a url
abbrev pub IsAt : Definitions → Text → Text → Node → Type 0
IsAt p url id n = Has (asking p) (key id url) (Some n)

-- what stands under an element: its children, and then its slices
abbrev pub under : Text → Node → List Text
under id n = map (child_id id) n.names ++ n.slices

-- elements are those of ids and of what stands under them: the first, what stands under it, and then the others
abbrev pub Lists : Definitions → Text → List Element → List Text → Type 0
Lists p url [] [] = Unit {0}
Lists p url [] (id ∷ ids) = ⊥
Lists p url (e ∷ es) [] = ⊥
Lists p url (e ∷ es) (id ∷ ids) =
    (n : Node) × IsAt p url id n × (bounds_fit n.element ≡ true) × (n.element ≡ e) × Lists p url es (under id n ++ ids)

-- ---- the whole

-- there is an element of an id
abbrev pub IsThere : Definitions → Text → Text → Type 0
IsThere p url id = (n : Node) × IsAt p url id n

abbrev pub IsUpThere : Definitions → Text → Option Text → Type 0
IsUpThere p url None = Unit {0}
IsUpThere p url (Some up) = IsThere p url up

-- each id is that of an element, and so is the one under which it stands
abbrev pub AreThere : Definitions → Text → List Element → Type 0
AreThere p url [] = Unit {0}
AreThere p url (e ∷ es) = (IsThere p url e.id × IsUpThere p url (up_of e.id)) × AreThere p url es

-- the ids of the roots
abbrev pub roots : List Element → List Text
roots es = map (λ e. e.id) (filter is_root es)

-- the elements that a differential makes of those of its base: each id of both is there, and they stand in order
abbrev pub IsLaid : Definitions → Text → List Element → List Element → List Element → Type 0
IsLaid p url base differential es =
    AreThere p url base × AreThere p url differential × Lists p url es (roots base)
