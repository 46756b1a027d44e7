-- Types of resources and of other things, each on a base.
use Rattle.std.specs.Prelude.{[], ◌∷◌, Bool, codes}
use Rattle.fhir_json.specs.Tree.{Text, Tree, string, no_items, item, Members, no_members, member}
use Rattle.fhir_schema.specs.Schemas.{SchemaValue, schema_of}
use Rattle.fhir_schema.specs.Covers.{derives}
use Rattle.fhir_instance.specs.TypingExample.{element, definition, with_snapshot}

-- a definition of a type, with a base or without one
abbrev pub type_with : Text → Text → Members → Tree
type_with kind type more = definition kind type more

abbrev pub root_alone : Text → Members
root_alone type = with_snapshot (item (element type (codes "0") (codes "*") no_members) no_items)

abbrev pub based_on : Text → Text → Members
based_on base type = member (codes "baseDefinition") (string base) (root_alone type)

-- Patient rests on DomainResource and that on Resource, Duration on Quantity and that on Element
abbrev pub types : SchemaValue
types = schema_of (record {
  structure_definitions =
      (codes "urn:Resource", type_with (codes "resource") (codes "Resource") (root_alone (codes "Resource")))
      ∷ (codes "urn:DomainResource", type_with (codes "resource") (codes "DomainResource") (based_on (codes "urn:Resource") (codes "DomainResource")))
      ∷ (codes "urn:Patient", type_with (codes "resource") (codes "Patient") (based_on (codes "urn:DomainResource") (codes "Patient")))
      ∷ (codes "urn:Element", type_with (codes "complex-type") (codes "Element") (root_alone (codes "Element")))
      ∷ (codes "urn:Quantity", type_with (codes "complex-type") (codes "Quantity") (based_on (codes "urn:Element") (codes "Quantity")))
      ∷ (codes "urn:Duration", type_with (codes "complex-type") (codes "Duration") (based_on (codes "urn:Quantity") (codes "Duration")))
      ∷ [];
  value_sets = [];
  code_systems = [];
})

-- the first type is the other, or derives from it
abbrev pub is_kind_of : Text → Text → Bool
is_kind_of type ancestor = derives types type ancestor
