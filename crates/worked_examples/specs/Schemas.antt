-- Small packages: why a definition of each can't be used, and which types cover which.
use Rattle.std.specs.Prelude.{List, [], ◌∷◌, Bool, Option, codes}
use Rattle.fhir_json.specs.Tree.{Text, Tree, string, array, object, Items, no_items, Members, no_members, member}
use Rattle.fhir_json.specs.Tree.{item as one_more}
use Rattle.fhir_elements.specs.declared.reason.Reason.{Reason}
use Rattle.fhir_schema.specs.Schemas.{SchemaValue, schema_of, unusable}
use Rattle.fhir_schema.specs.Covers.{covers}
use Rattle.fhir_instance.specs.TypingExample.{element, definition, of_type, of_types, with_snapshot}

abbrev pub schema_with : List (Text × Tree) → SchemaValue
schema_with ds = schema_of (record { structure_definitions = ds; value_sets = []; code_systems = [] })

-- any number of items
abbrev pub many : Text → Members → Tree
many id more = element id (codes "0") (codes "*") more

abbrev pub code_type : Tree
code_type = definition (codes "primitive-type") (codes "code") (with_snapshot (one_more (many (codes "code") no_members) no_items))

-- a resource of a type A, with these elements below its root
abbrev pub with_elements : Items → Tree
with_elements es = definition (codes "resource") (codes "A") (with_snapshot (one_more (many (codes "A") no_members) es))

-- why it can't be used beside the type `code`
abbrev pub reason_of : Tree → Option Reason
reason_of t = unusable (schema_with ((codes "urn:code", code_type) ∷ (codes "urn:A", t) ∷ [])) (codes "urn:A")

abbrev pub reason_with : Tree → Option Reason
reason_with e = reason_of (with_elements (one_more e no_items))

abbrev pub coded : Members
coded = of_type (codes "code")

abbrev pub right : Tree
right = many (codes "A.b") coded

-- without `min`
abbrev pub no_min : Tree
no_min = object (member (codes "id") (string (codes "A.b")) (member (codes "max") (string (codes "1")) coded))

abbrev pub min_over_max : Tree
min_over_max = element (codes "A.b") (codes "2") (codes "1") coded

abbrev pub type_twice : Tree
type_twice = many (codes "A.b") (of_types (codes "code") (codes "code"))

abbrev pub id_twice : Tree
id_twice = with_elements (one_more right (one_more right no_items))

abbrev pub of_no_type : Tree
of_no_type = many (codes "A.b") (of_type (codes "missing"))

abbrev pub orphan : Tree
orphan = many (codes "A.b.c") coded

abbrev pub two_roots : Tree
two_roots = many (codes "B") no_members

abbrev pub no_root : Tree
no_root = definition (codes "resource") (codes "A") (with_snapshot (one_more right no_items))

abbrev pub no_target : Tree
no_target = many (codes "A.b") (member (codes "contentReference") (string (codes "#A.z")) no_members)

abbrev pub own_base : Tree
own_base =
    definition (codes "resource") (codes "A") (member (codes "baseDefinition") (string (codes "urn:A"))
    (with_snapshot (one_more (many (codes "A") no_members) no_items)))

-- sliced by something that isn't read
abbrev pub sliced_by_profile : Tree
sliced_by_profile =
    with_elements
    (one_more (many (codes "A.b") (member (codes "slicing") (object
    (member (codes "discriminator") (array (one_more (object
    (member (codes "type") (string (codes "profile")) (member (codes "path") (string (codes "$this")) no_members))) no_items)) no_members)) coded))
    (one_more (many (codes "A.b:s") coded)
    no_items))

abbrev pub no_snapshot : Tree
no_snapshot = definition (codes "resource") (codes "A") no_members

-- why the second of two definitions of the type A can't be used
abbrev pub second_reason : Option Reason
second_reason =
    unusable (schema_with ((codes "urn:code", code_type) ∷ (codes "urn:A", with_elements no_items) ∷ (codes "urn:B", with_elements no_items) ∷ []))
    (codes "urn:B")

-- ---- types that rest on others

abbrev pub based : Text → Text → Text → Tree
based kind type base =
    definition kind type (member (codes "baseDefinition") (string base) (with_snapshot (one_more (many type no_members) no_items)))

abbrev pub types : SchemaValue
types = schema_with
    ((codes "urn:Resource", definition (codes "resource") (codes "Resource") (with_snapshot (one_more (many (codes "Resource") no_members) no_items)))
    ∷ (codes "urn:DomainResource", based (codes "resource") (codes "DomainResource") (codes "urn:Resource"))
    ∷ (codes "urn:Patient", based (codes "resource") (codes "Patient") (codes "urn:DomainResource"))
    ∷ (codes "urn:Element", definition (codes "complex-type") (codes "Element") (with_snapshot (one_more (many (codes "Element") no_members) no_items)))
    ∷ (codes "urn:Name", based (codes "complex-type") (codes "Name") (codes "urn:Element"))
    ∷ [])

abbrev pub covers_type : Text → Text → Bool
covers_type code other = covers types code other
