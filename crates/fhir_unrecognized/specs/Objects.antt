-- The objects of a definition: how a message calls each, and in which members of each one there are others.
use Rattle.std.specs.Prelude.{List, [], ◌∷◌, Bool, true, false, Option, codes}
use Rattle.std.specs.Map.{lookup}
use Rattle.std.specs.Str.{bytes_eq}
use Rattle.fhir_json.specs.Tree.{Text}
use Rattle.fhir_unrecognized.specs.declared.object.Object.{Object}
use Rattle.fhir_unrecognized.specs.declared.object.Object.TheVariants.{StructureDefinition, ValueSet, CodeSystem, Snapshot, Differential, Element, ElementType, Binding, Constraint, Slicing, Discriminator, Base, Compose, Include, ListedConcept, Filter, Concept}

abbrev pub object_text : Object → Text
object_text StructureDefinition = codes "the definition"
object_text ValueSet = codes "the value set"
object_text CodeSystem = codes "the code system"
object_text Snapshot = codes "the snapshot"
object_text Differential = codes "the differential"
object_text Element = codes "an element"
object_text ElementType = codes "a type"
object_text Binding = codes "a binding"
object_text Constraint = codes "a constraint"
object_text Slicing = codes "a slicing"
object_text Discriminator = codes "a discriminator"
object_text Base = codes "a base"
object_text Compose = codes "the compose"
object_text Include = codes "an include"
object_text ListedConcept = codes "a listed concept"
object_text Filter = codes "a filter"
object_text Concept = codes "a concept"

abbrev pub is_element : Object → Bool
is_element Element = true
is_element _ = false

-- ---- the members of an object in which others stand

abbrev pub parts_of : Object → List (Text × Object)
parts_of StructureDefinition = (codes "snapshot", Snapshot) ∷ (codes "differential", Differential) ∷ []
parts_of ValueSet = (codes "compose", Compose) ∷ []
parts_of CodeSystem = (codes "concept", Concept) ∷ []
parts_of Snapshot = (codes "element", Element) ∷ []
parts_of Differential = (codes "element", Element) ∷ []
parts_of Element =
    (codes "type", ElementType) ∷ (codes "binding", Binding) ∷ (codes "constraint", Constraint) ∷ (codes "slicing", Slicing) ∷ (codes "base", Base) ∷ []
parts_of Slicing = (codes "discriminator", Discriminator) ∷ []
parts_of Compose = (codes "include", Include) ∷ (codes "exclude", Include) ∷ []
parts_of Include = (codes "concept", ListedConcept) ∷ (codes "filter", Filter) ∷ []
parts_of Concept = (codes "concept", Concept) ∷ []
parts_of _ = []

-- the object that stands in a member, if one of these does
abbrev pub part_of : Object → Text → Option Object
part_of object name = lookup (bytes_eq name) (parts_of object)

-- the object that a resource of a type is
abbrev pub resource_of : Text → Option Object
resource_of type =
    lookup (bytes_eq type)
    ((codes "StructureDefinition", StructureDefinition) ∷ (codes "ValueSet", ValueSet) ∷ (codes "CodeSystem", CodeSystem) ∷ [])
