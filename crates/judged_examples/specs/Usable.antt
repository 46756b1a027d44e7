-- Small type definitions, and why they can't be used.
use Rattle.std.specs.Prelude.{[], ◌∷◌, Option, codes}
use Rattle.fhir_json.specs.Tree.{Text, Tree, number, string, array, object, Items, no_items, Members, no_members, member}
use Rattle.fhir_json.specs.Tree.{item as one_more}
use Rattle.fhir_elements.specs.declared.reason.Reason.{Reason}
use Rattle.fhir_schema.specs.Schemas.{schema_of, unusable}
use Rattle.fhir_instance.specs.TypingExample.{element, definition, of_type, with_snapshot}

-- any number of items
abbrev pub many : Text → Members → Tree
many id more = element id (codes "0") (codes "*") more

-- at least none, and who knows how many at most
abbrev pub without_max : Text → Members → Tree
without_max id more = object (member (codes "id") (string id) (member (codes "min") (number (codes "0")) more))

-- at most many, and who knows how many at least
abbrev pub without_min : Text → Members → Tree
without_min id more = object (member (codes "id") (string id) (member (codes "max") (string (codes "*")) more))

abbrev pub coded : Members
coded = of_type (codes "code")

-- `"type": []`
abbrev pub of_none : Members
of_none = member (codes "type") (array no_items) no_members

abbrev pub as_b : Members
as_b = member (codes "contentReference") (string (codes "#A.b")) no_members

abbrev pub code_type : Tree
code_type = definition (codes "primitive-type") (codes "code") (with_snapshot (one_more (many (codes "code") no_members) no_items))

-- why a resource type A can't be used, which has these elements
abbrev pub reason_of : Items → Option Reason
reason_of elements = unusable (schema_of (record {
  structure_definitions =
      (codes "urn:code", code_type)
      ∷ (codes "urn:A", definition (codes "resource") (codes "A") (with_snapshot elements))
      ∷ [];
  value_sets = [];
  code_systems = [];
})) (codes "urn:A")

-- that root alone
abbrev pub root_alone : Tree → Option Reason
root_alone root = reason_of (one_more root no_items)

-- a root without types, an element that has one, and this element
abbrev pub with_element : Tree → Option Reason
with_element e = reason_of (one_more (many (codes "A") no_members) (one_more (many (codes "A.b") coded) (one_more e no_items)))
