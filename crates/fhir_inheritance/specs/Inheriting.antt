-- What each element of a snapshot inherits, and so what it is, as the questions that it asks of other elements (FHIR R4,
-- Profiling, snapshots). The questions are names of elements among those of all definitions.
use Rattle.std.specs.Prelude.{List, [], true, false, Option, None, Some, is_some, if◌then◌else◌}
use Rattle.std.specs.Option.{option_map, option_map_or}
use Rattle.fhir_json.specs.Tree.{Text}
use Rattle.fhir_names.specs.Parents.{front_of, name_of, sliced_of}
use Rattle.fhir_elements.specs.Element.{Element}
use Rattle.fhir_package.specs.Definitions.{Definitions}
use Rattle.fhir_asking.specs.Asking.{Asking, given, asks}
use Rattle.fhir_overlay.specs.Overlay.{as_slice}
use Rattle.fhir_inheritance.specs.Keys.{key, key_parts, child_id, twin_of}
use Rattle.fhir_inheritance.specs.Elements.{find, names_under, slices_under}
use Rattle.fhir_inheritance.specs.Sources.{Source, source_at, only_type_key, target_key}
use Rattle.fhir_inheritance.specs.Node.{Node}
use Rattle.fhir_inheritance.specs.Lists.{with_others}
use Rattle.fhir_inheritance.specs.Laying.{laid, moved, all_slices, is_touched}

-- ---- the names of its children

abbrev pub names_in : Option Node → List Text
names_in node = option_map_or (λ n. n.names) node []

-- the names of another element's children, if it is there
abbrev pub asks_names : Option Text → (List Text → Asking Node) → Asking Node
asks_names None next = next []
asks_names (Some other) next = asks other (λ node. next (names_in node))

abbrev pub key_at : Text → Option Text → Option Text
key_at url id = option_map (λ id. key id url) id

-- the names with those of the content target's children
abbrev pub asks_targets : Definitions → Text → Element → List Text → List Text → Asking Node
asks_targets p url e slices names =
    asks_names (target_key p url e) (λ targets.
    given (Some (record { element = e; names = with_others names targets; slices = slices; touched = true })))

-- before them those of the children of the only type's root
abbrev pub asks_kinds : Definitions → Text → Element → List Text → List Text → Asking Node
asks_kinds p url e slices names =
    asks_names (only_type_key p e.types) (λ kinds. asks_targets p url e slices (with_others names kinds))

-- the base's children, then those of the same element without its last slice, and then these
abbrev pub touched_node : Definitions → Text → Element → List Text → List Text → Asking Node
touched_node p url e names slices =
    asks_names (key_at url (twin_of e.id)) (λ twins. asks_kinds p url e slices (with_others names twins))

-- an element has the base's children, and where the differential has one that the base doesn't have, others too
abbrev pub node_of : Definitions → Text → List Element → Element → List Text → List Text → Asking Node
node_of p url differential e names slices =
    if is_touched differential e.id names then touched_node p url e names slices
    else given (Some (record { element = e; names = names; slices = slices; touched = false }))

-- what comes of what an id inherits: an element, the names of its children and its slices
abbrev pub made : Definitions → Text → List Element → Element → List Text → List Text → Asking Node
made p url differential inherited names slices =
    let all = all_slices differential inherited.id slices in
    node_of p url differential (laid differential all inherited) names all

-- of an element of another id
abbrev pub made_from : Definitions → Text → List Element → Text → Element → Asking Node
made_from p url differential id e = made p url differential (moved id e) [] []

-- ---- what a new id inherits

-- from this element where it is there, and otherwise in that way
abbrev pub first_there : Definitions → Text → List Element → Text → Option Text → Asking Node → Asking Node
first_there p url differential id None otherwise = otherwise
first_there p url differential id (Some from) otherwise =
    asks from (λ node. option_map_or (λ n. made_from p url differential id n.element) node otherwise)

-- the name of the child of an element, by the element's name
abbrev pub child_key : Text → Text → Option Text
child_key name other = option_map (λ at. key (child_id at.0 name) at.1) (key_parts other)

abbrev pub child_of : Text → Option Text → Option Text
child_of name None = None
child_of name (Some other) = child_key name other

-- the same child of the content target
abbrev pub from_target : Definitions → Text → List Element → Text → Element → Asking Node
from_target p url differential id parent =
    first_there p url differential id (child_of (name_of id) (target_key p url parent)) (given None)

-- that of the only type's root, else that
abbrev pub from_types : Definitions → Text → List Element → Text → Element → Asking Node
from_types p url differential id parent =
    first_there p url differential id (child_of (name_of id) (only_type_key p parent.types))
    (from_target p url differential id parent)

-- the same child of the parent without its last slice, else those
abbrev pub from_parent : Definitions → Text → List Element → Text → Text → Element → Asking Node
from_parent p url differential id front parent =
    first_there p url differential id (child_of (name_of id) (key_at url (twin_of front)))
    (from_types p url differential id parent)

-- a new child is there where its parent is touched
abbrev pub from_node : Definitions → Text → List Element → Text → Text → Node → Asking Node
from_node p url differential id front parent =
    if parent.touched then from_parent p url differential id front parent.element else given None

abbrev pub new_child : Definitions → Text → List Element → Text → Option Text → Asking Node
new_child p url differential id None = given None
new_child p url differential id (Some front) =
    asks (key front url) (λ node. option_map_or (from_node p url differential id front) node (given None))

-- a new slice inherits from the element that it is a slice of
abbrev pub new_slice : Definitions → Text → List Element → Text → Text → Asking Node
new_slice p url differential id whole =
    if is_some (find differential id)
    then asks (key whole url) (λ node. option_map_or (λ n. made_from p url differential id (as_slice n.element)) node (given None))
    else given None

abbrev pub new : Definitions → Text → List Element → Text → Asking Node
new p url differential id =
    option_map_or (new_slice p url differential id) (sliced_of id) (new_child p url differential id (front_of id))

-- ---- what each id is

-- an element of a snapshot that is written
abbrev pub written_node : List Element → Text → Element → Node
written_node es id e = record { element = e; names = names_under es id; slices = slices_under es id; touched = false }

abbrev pub written : List Element → Text → Asking Node
written es id = given (option_map (written_node es id) (find es id))

-- an id inherits the base's element of that id, if there is one
abbrev pub inherits : Definitions → Text → List Element → Text → Option Text → Asking Node
inherits p url differential id None = given None
inherits p url differential id (Some base) =
    asks (key id base) (λ node.
    option_map_or (λ n. made p url differential n.element n.names n.slices) node (new p url differential id))

abbrev pub in_source : Definitions → Text → Text → Source → Asking Node
in_source p id url source =
    if source.written then written source.elements id else inherits p url source.elements id source.base

abbrev pub at : Definitions → Text → Text → Asking Node
at p id url = option_map_or (in_source p id url) (source_at p url) (given None)

-- what the element of a name asks for
abbrev pub asking : Definitions → Text → Asking Node
asking p name = option_map_or (λ parts. at p parts.0 parts.1) (key_parts name) (given None)
