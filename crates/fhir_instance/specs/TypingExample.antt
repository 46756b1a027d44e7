-- A package with a complex type, a choice and companions, and a profile, which has no say in typing; and resources: which item
-- one is, and what is none.
use Rattle.std.specs.Prelude.{[], ◌∷◌, true, Some, None, codes}
use Rattle.fhir_json.specs.Tree.{Text, Tree, null, boolean, number, string, array, object, Items, no_items, Members, no_members, member}
use Rattle.fhir_json.specs.Tree.{item as one_more}
use Rattle.fhir_package.specs.Definitions.{Definitions}
use Rattle.fhir_schema.specs.Schemas.{SchemaValue, schema_of}
use Rattle.fhir_instance.specs.Items.{Item, item, no_kids, kid}

-- ---- the definitions

-- an element of so many items
abbrev pub element : Text → Text → Text → Members → Tree
element id min max more =
    object (member (codes "id") (string id) (member (codes "min") (number min) (member (codes "max") (string max) more)))

-- a StructureDefinition with a snapshot
abbrev pub definition : Text → Text → Members → Tree
definition kind type more =
    object (member (codes "kind") (string kind) (member (codes "type") (string type) more))

abbrev pub one_code : Text → Tree
one_code code = object (member (codes "code") (string code) no_members)

-- of that type
abbrev pub of_type : Text → Members
of_type code = member (codes "type") (array (one_more (one_code code) no_items)) no_members

-- of either of two types
abbrev pub of_types : Text → Text → Members
of_types code other = member (codes "type") (array (one_more (one_code code) (one_more (one_code other) no_items))) no_members

abbrev pub system_string : Text
system_string = codes "http://hl7.org/fhirpath/System.String"

abbrev pub with_snapshot : Items → Members
with_snapshot es = member (codes "snapshot") (object (member (codes "element") (array es) no_members)) no_members

-- a primitive type, whose items may have an id and extensions
abbrev pub code_type : Tree
code_type = definition (codes "primitive-type") (codes "code") (with_snapshot
    (one_more (element (codes "code") (codes "0") (codes "*") no_members)
    (one_more (element (codes "code.id") (codes "0") (codes "1") (of_type system_string))
    (one_more (element (codes "code.extension") (codes "0") (codes "*") (of_type (codes "Extension")))
    (one_more (element (codes "code.modifierExtension") (codes "0") (codes "*") (of_type (codes "Extension")))
    (one_more (element (codes "code.value") (codes "0") (codes "1") (of_type system_string))
    no_items))))))

abbrev pub boolean_type : Tree
boolean_type = definition (codes "primitive-type") (codes "boolean") (with_snapshot
    (one_more (element (codes "boolean") (codes "0") (codes "*") no_members) no_items))

abbrev pub extension_type : Tree
extension_type = definition (codes "complex-type") (codes "Extension") (with_snapshot
    (one_more (element (codes "Extension") (codes "0") (codes "*") no_members)
    (one_more (element (codes "Extension.url") (codes "1") (codes "1") (of_type system_string))
    no_items)))

-- a complex type with any number of given names, and an element named as the property that names a resource's type
abbrev pub name_type : Tree
name_type = definition (codes "complex-type") (codes "Name") (with_snapshot
    (one_more (element (codes "Name") (codes "0") (codes "*") no_members)
    (one_more (element (codes "Name.resourceType") (codes "0") (codes "1") (of_type (codes "code")))
    (one_more (element (codes "Name.given") (codes "0") (codes "*") (of_type (codes "code")))
    no_items))))

-- a resource with so many names, one that has children of its own in place of its type's, and a value of two types
abbrev pub snapshot_of_people : Text → Members
snapshot_of_people names = with_snapshot
    (one_more (element (codes "Person") (codes "0") (codes "*") no_members)
    (one_more (element (codes "Person.name") (codes "0") names (of_type (codes "Name")))
    (one_more (element (codes "Person.alias") (codes "0") (codes "1") (of_type (codes "Name")))
    (one_more (element (codes "Person.alias.short") (codes "0") (codes "1") (of_type (codes "code")))
    (one_more (element (codes "Person.value[x]") (codes "0") (codes "1") (of_types (codes "code") (codes "boolean")))
    no_items)))))

abbrev pub person_type : Tree
person_type = definition (codes "resource") (codes "Person") (snapshot_of_people (codes "2"))

-- a profile that allows one name
abbrev pub person_profile : Tree
person_profile =
    definition (codes "resource") (codes "Person")
    (member (codes "derivation") (string (codes "constraint"))
    (member (codes "baseDefinition") (string (codes "urn:Person")) (snapshot_of_people (codes "1"))))

-- a type of which no resource is
abbrev pub abstract_type : Tree
abstract_type =
    definition (codes "resource") (codes "Anyone") (member (codes "abstract") (boolean true) (snapshot_of_people (codes "2")))

abbrev pub people : Definitions
people = record {
  structure_definitions =
      (codes "urn:one", person_profile)
      ∷ (codes "urn:code", code_type)
      ∷ (codes "urn:boolean", boolean_type)
      ∷ (codes "urn:Extension", extension_type)
      ∷ (codes "urn:Name", name_type)
      ∷ (codes "urn:Person", person_type)
      ∷ (codes "urn:Anyone", abstract_type)
      ∷ [];
  value_sets = [];
  code_systems = [];
}

abbrev pub schema : SchemaValue
schema = schema_of people

-- ---- a resource, whose members don't stand in the order of the type

-- `{"_given": companions, "given": ["a", null], "resourceType": "N"}`
abbrev pub name_with : Items → Tree
name_with companions =
    object
    (member (codes "_given") (array companions)
    (member (codes "given") (array (one_more (string (codes "a")) (one_more null no_items)))
    (member (codes "resourceType") (string (codes "N"))
    no_members)))

-- `{"short": "s"}`
abbrev pub alias : Tree
alias = object (member (codes "short") (string (codes "s")) no_members)

-- `{"valueBoolean": true, "alias": {"short": "s"}, "name": [..], "valueCode": "c", "resourceType": "Person"}`
abbrev pub person_with : Items → Tree
person_with companions =
    object
    (member (codes "valueBoolean") (boolean true)
    (member (codes "alias") alias
    (member (codes "name") (array (one_more (name_with companions) no_items))
    (member (codes "valueCode") (string (codes "c"))
    (member (codes "resourceType") (string (codes "Person"))
    no_members)))))

-- `{"url": "u"}`
abbrev pub extension : Tree
extension = object (member (codes "url") (string (codes "u")) no_members)

-- `{"extension": [{"url": "u"}], "id": "x"}`
abbrev pub companion : Tree
companion =
    object
    (member (codes "extension") (array (one_more extension no_items))
    (member (codes "id") (string (codes "x"))
    no_members))

-- the companions of the two given names, of which the first has none
abbrev pub beside : Items
beside = one_more null (one_more companion no_items)

abbrev pub person : Tree
person = person_with beside

abbrev pub leaf : Text → Text → Item
leaf type text = item type (Some (string text)) no_kids

-- the second given name, which has no value
abbrev pub second_name : Item
second_name = item (codes "code") None
    (kid (codes "id") (leaf system_string (codes "x"))
    (kid (codes "extension") (item (codes "Extension") (Some extension) (kid (codes "url") (leaf system_string (codes "u")) no_kids))
    no_kids))

-- its item, in the order of the type: the value that is a code stands before the one that is a flag
abbrev pub person_item : Item
person_item =
    item (codes "Person") (Some person)
    (kid (codes "name") (item (codes "Name") (Some (name_with beside))
    (kid (codes "resourceType") (leaf (codes "code") (codes "N"))
    (kid (codes "given") (leaf (codes "code") (codes "a"))
    (kid (codes "given") second_name
    no_kids))))
    (kid (codes "alias") (item (codes "Name") (Some alias) (kid (codes "short") (leaf (codes "code") (codes "s")) no_kids))
    (kid (codes "value[x]") (leaf (codes "code") (codes "c"))
    (kid (codes "value[x]") (item (codes "boolean") (Some (boolean true)) no_kids)
    no_kids))))

-- ---- resources that have no item

-- null beside null
abbrev pub both_null : Tree
both_null = person_with (one_more null (one_more null no_items))

-- fewer companions than given names
abbrev pub one_short : Tree
one_short = person_with (one_more companion no_items)

abbrev pub resource_of : Text → Text → Tree → Tree
resource_of type name value =
    object (member (codes "resourceType") (string type) (member name value no_members))

abbrev pub person_of : Text → Tree → Tree
person_of name value = resource_of (codes "Person") name value

-- an element that repeats, and is no array
abbrev pub no_array : Tree
no_array = person_of (codes "name") (name_with beside)

-- an array with nothing in it
abbrev pub empty_array : Tree
empty_array = person_of (codes "name") (array no_items)

-- an element that doesn't repeat, as an array
abbrev pub unwanted_array : Tree
unwanted_array = person_of (codes "alias") (array (one_more alias no_items))

-- a property that the type doesn't have
abbrev pub unknown : Tree
unknown = person_of (codes "value") (string (codes "c"))

-- a property of the element's type, which has children of its own in place of these
abbrev pub of_the_type : Tree
of_the_type = person_of (codes "alias") (object (member (codes "given") (array (one_more (string (codes "a")) no_items)) no_members))

-- a code with a blank at its end
abbrev pub not_a_code : Tree
not_a_code = person_of (codes "valueCode") (string (codes "c "))

-- a companion with another property than an id and extensions
abbrev pub with_value : Tree
with_value = person_of (codes "_valueCode") (object (member (codes "value") (string (codes "c")) no_members))

-- a resource of an abstract type
abbrev pub of_abstract : Tree
of_abstract = resource_of (codes "Anyone") (codes "valueCode") (string (codes "c"))

-- a companion whose id is empty
abbrev pub empty_id : Tree
empty_id = person_of (codes "_valueCode") (object (member (codes "id") (string []) no_members))

-- a companion whose id is a number
abbrev pub number_id : Tree
number_id = person_of (codes "_valueCode") (object (member (codes "id") (number (codes "1")) no_members))

-- a companion with modifier extensions, which the type has
abbrev pub modified : Tree
modified = person_of (codes "_valueCode") (object (member (codes "modifierExtension") (array (one_more extension no_items)) no_members))

-- a code with a blank at its end, and a companion
abbrev pub wrong_beside : Tree
wrong_beside =
    object
    (member (codes "resourceType") (string (codes "Person"))
    (member (codes "valueCode") (string (codes "c "))
    (member (codes "_valueCode") companion
    no_members)))

-- null beside a companion, where one value must stand
abbrev pub null_value : Tree
null_value =
    object
    (member (codes "resourceType") (string (codes "Person"))
    (member (codes "valueCode") null
    (member (codes "_valueCode") companion
    no_members)))

-- a property that names a type, in the object of an element that has no element of that name
abbrev pub named_element : Tree
named_element = person_of (codes "alias")
    (object (member (codes "resourceType") (string (codes "Person")) (member (codes "short") (string (codes "s")) no_members)))

-- the same in a companion
abbrev pub named_companion : Tree
named_companion = person_of (codes "_valueCode")
    (object (member (codes "resourceType") (string (codes "Person")) (member (codes "id") (string (codes "x")) no_members)))
