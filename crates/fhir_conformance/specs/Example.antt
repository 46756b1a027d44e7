-- A package of one resource with a few elements, and two profiles of it: what conforms, and what doesn't.
use Rattle.std.specs.Prelude.{[], ◌∷◌, codes}
use Rattle.fhir_json.specs.Tree.{Text, Tree, string, array, object, no_items, item, Members, no_members, member}
use Rattle.fhir_package.specs.Definitions.{Definitions}
use Rattle.fhir_schema.specs.Schemas.{SchemaValue, schema_of}
use Rattle.fhir_instance.specs.TypingExample.{element, definition}

-- its one type is `code`
abbrev pub of_code : Members
of_code = member (codes "type") (array (item (object (member (codes "code") (string (codes "code")) no_members)) no_items)) no_members

abbrev pub code_type : Tree
code_type =
    definition (codes "primitive-type") (codes "code")
    (member (codes "snapshot") (object (member (codes "element")
    (array (item (element (codes "code") (codes "0") (codes "*") no_members) no_items))
    no_members)) no_members)

-- a resource of so many notes and resource types at least, and one of each at most
abbrev pub snapshot_of_things : Text → Text → Members
snapshot_of_things notes types =
    member (codes "snapshot") (object (member (codes "element") (array
    (item (element (codes "Thing") (codes "0") (codes "*") no_members)
    (item (element (codes "Thing.note") notes (codes "1") of_code)
    (item (element (codes "Thing.resourceType") types (codes "1") of_code)
    no_items)))) no_members)) no_members

abbrev pub thing_type : Tree
thing_type = definition (codes "resource") (codes "Thing") (snapshot_of_things (codes "0") (codes "0"))

abbrev pub thing_profile : Text → Text → Tree
thing_profile notes types =
    definition (codes "resource") (codes "Thing")
    (member (codes "derivation") (string (codes "constraint"))
    (member (codes "baseDefinition") (string (codes "urn:Thing")) (snapshot_of_things notes types)))

-- a primitive type, a resource with perhaps a note, a profile that asks for a note, and one that asks for an element
-- `resourceType`
abbrev pub definitions : Definitions
definitions = record {
  structure_definitions =
      (codes "urn:code", code_type)
      ∷ (codes "urn:Thing", thing_type)
      ∷ (codes "urn:noted", thing_profile (codes "1") (codes "0"))
      ∷ (codes "urn:named", thing_profile (codes "0") (codes "1"))
      ∷ [];
  value_sets = [];
  code_systems = [];
}

abbrev pub schema : SchemaValue
schema = schema_of definitions

abbrev pub thing : Members → Tree
thing more = object (member (codes "resourceType") (string (codes "Thing")) more)

abbrev pub bare : Tree
bare = thing no_members

abbrev pub noted : Tree
noted = thing (member (codes "note") (string (codes "x")) no_members)

abbrev pub unknown : Tree
unknown = thing (member (codes "other") (string (codes "x")) no_members)
