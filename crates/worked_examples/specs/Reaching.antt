-- Definitions that name others, and a resource in which types are named.
use Rattle.std.specs.Prelude.{List, [], ◌∷◌, codes}
use Rattle.fhir_json.specs.Tree.{Text, Tree, string, array, object, items_of, members_of, Property}
use Rattle.fhir_package.specs.declared.kind.Kind.TheVariants.{StructureDefinition}
use Rattle.fhir_package.specs.Definitions.{Definitions}
use Rattle.fhir_package.specs.Packing.{Definition}

abbrev pub text : Text → Text → Property
text name value = (name, string value)

abbrev pub list : Text → List Tree → Property
list name values = (name, array (items_of values))

abbrev pub fields : List Property → Tree
fields ps = object (members_of ps)

abbrev pub with_elements : Text → List Tree → Property
with_elements part elements = (part, fields (list (codes "element") elements ∷ []))

-- ---- a profile

abbrev pub type_entry : Text → List Tree → List Tree → Tree
type_entry code profiles targets =
    fields (text (codes "code") code ∷ list (codes "profile") profiles ∷ list (codes "targetProfile") targets ∷ [])

-- an element of some types, with a content reference and a binding
abbrev pub element : List Tree → Text → Text → Tree
element types content bound =
    fields (list (codes "type") types
    ∷ text (codes "contentReference") content
    ∷ (codes "binding", fields (text (codes "strength") (codes "example") ∷ text (codes "valueSet") bound ∷ []))
    ∷ [])

abbrev pub referring : Text → Tree
referring content = fields (text (codes "contentReference") content ∷ [])

abbrev pub in_snapshot : List Tree
in_snapshot =
    element (type_entry (codes "B") (string (codes "urn:Q|4") ∷ string (codes "urn:R") ∷ []) (string (codes "urn:S|2") ∷ string (codes "urn:T") ∷ [])
    ∷ type_entry (codes "C") [] []
    ∷ []) (codes "urn:D|5#D.e") (codes "urn:V|3")
    ∷ fields (list (codes "type") (type_entry (codes "E") [] [] ∷ []) ∷ [])
    ∷ []

-- behind the first one, one that refers to an element of its own definition, and one that refers to none
abbrev pub in_differential : List Tree
in_differential =
    element (type_entry (codes "F") (string (codes "urn:U") ∷ []) (string (codes "urn:W") ∷ []) ∷ []) (codes "urn:G#G.h") (codes "urn:X")
    ∷ referring (codes "#A.b")
    ∷ referring (codes "urn:H")
    ∷ []

abbrev pub profile : Tree
profile =
    fields (text (codes "url") (codes "urn:P")
    ∷ text (codes "kind") (codes "resource")
    ∷ text (codes "type") (codes "A")
    ∷ text (codes "baseDefinition") (codes "urn:A|1")
    ∷ text (codes "derivation") (codes "constraint")
    ∷ with_elements (codes "snapshot") in_snapshot
    ∷ with_elements (codes "differential") in_differential
    ∷ [])

-- ---- a value set, and a code system

abbrev pub sets : List Tree → Property
sets canonicals = list (codes "valueSet") canonicals

abbrev pub composed : List Property → Tree
composed parts = fields ((codes "compose", fields parts) ∷ [])

abbrev pub value_set : Tree
value_set =
    composed (list (codes "include") (fields (text (codes "system") (codes "urn:s|8") ∷ sets (string (codes "urn:W|7") ∷ string (codes "urn:X") ∷ []) ∷ [])
    ∷ fields (sets (string (codes "urn:Y") ∷ []) ∷ [])
    ∷ [])
    ∷ list (codes "exclude") (fields (text (codes "system") (codes "urn:t") ∷ []) ∷ fields (sets (string (codes "urn:Z|9") ∷ []) ∷ []) ∷ [])
    ∷ [])

abbrev pub code_system : Tree
code_system = fields (text (codes "content") (codes "complete") ∷ [])

-- ---- a package

-- the type that the profile constrains
abbrev pub type_definition : Tree
type_definition = fields (text (codes "kind") (codes "resource") ∷ text (codes "type") (codes "A") ∷ [])

-- one more definition of that type, of another kind
abbrev pub other_definition : Tree
other_definition =
    fields (text (codes "kind") (codes "complex-type")
    ∷ text (codes "type") (codes "A")
    ∷ text (codes "baseDefinition") (codes "urn:B")
    ∷ [])

-- one url has a definition of each kind
abbrev pub definitions : Definitions
definitions = record {
  structure_definitions = (codes "urn:P", profile) ∷ (codes "urn:A", type_definition) ∷ (codes "urn:O", other_definition) ∷ [];
  value_sets = (codes "urn:A", value_set) ∷ (codes "urn:V", value_set) ∷ [];
  code_systems = (codes "urn:A", code_system) ∷ (codes "urn:s", code_system) ∷ [];
}

-- a profile at the url of the type
abbrev pub another_profile : Definition
another_profile = record { kind = StructureDefinition; url = codes "urn:A"; tree = profile }

-- ---- a resource

-- Some of its texts refer to a resource, `subject` and `sources`. One with a whole url names no type, and a property's name doesn't either.
abbrev pub resource : Tree
resource =
    fields (text (codes "resourceType") (codes "A")
    ∷ (codes "subject", fields (text (codes "reference") (codes "B/1") ∷ []))
    ∷ text (codes "other") (codes "http://example.org/D/1")
    ∷ text (codes "E/1") (codes "f")
    ∷ list (codes "sources") (string (codes "F/2") ∷ string (codes "B/2") ∷ [])
    ∷ list (codes "contained") (fields (text (codes "resourceType") (codes "C") ∷ []) ∷ [])
    ∷ [])
