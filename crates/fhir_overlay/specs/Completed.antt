-- Elements written together, and a definition with a snapshot of them (FHIR R4, StructureDefinition, snapshot).
use Rattle.std.specs.Prelude.{List, [], ◌∷◌, ◌++◌, map, filter, not, codes}
use Rattle.std.specs.Str.{bytes_eq}
use Rattle.fhir_json.specs.Tree.{Text, Tree, array, object, Property, items_of, members_of, properties_of}
use Rattle.fhir_json.specs.Fields.{members_in}
use Rattle.fhir_elements.specs.Element.{Element}
use Rattle.fhir_overlay.specs.Json.{element_tree}

-- the array of elements
abbrev pub elements_tree : List Element → Tree
elements_tree es = array (items_of (map element_tree es))

-- the snapshot of those elements
abbrev pub snapshot_tree : List Element → Tree
snapshot_tree es = object (members_of ((codes "element", elements_tree es) ∷ []))

-- the members of other names
abbrev pub without_member : Text → List Property → List Property
without_member name ms = filter (λ m. not (bytes_eq name m.0)) ms

-- the definition with that snapshot behind its other members, in place of one that it has
abbrev pub with_snapshot : List Element → Tree → Tree
with_snapshot es t =
    object (members_of (without_member (codes "snapshot") (properties_of (members_in t)) ++ (codes "snapshot", snapshot_tree es) ∷ []))
