-- Elements that refer to others for their content, and companions of primitives.
use Rattle.std.specs.Prelude.{ℕ, List, [], ◌∷◌, map, Option, codes}
use Rattle.fhir_json.specs.Tree.{Text, Tree, string, array, object, Items, no_items, Members, no_members, member}
use Rattle.fhir_json.specs.Tree.{item as one_more}
use Rattle.fhir_elements.specs.declared.reason.Reason.{Reason}
use Rattle.fhir_schema.specs.Schemas.{SchemaValue, slots, forms, unusable}
use Rattle.fhir_instance.specs.TypingExample.{element, definition, with_snapshot}
use Rattle.worked_examples.specs.Schemas.{schema_with, many, code_type, coded, with_elements}
use Rattle.worked_examples.specs.Roots.{node, profile}

abbrev pub refers : Text → Text → Tree
refers id to = many id (member (codes "contentReference") (string to) no_members)

-- a type A: of its elements the second refers to the first, which has no children, the third to the root, and the fourth, which has
-- two children, to the first; the fifth is a code and has two children
abbrev pub referring_elements : Items
referring_elements =
    one_more (many (codes "A.b") coded)
    (one_more (refers (codes "A.c") (codes "#A.b"))
    (one_more (refers (codes "A.d") (codes "#A"))
    (one_more (refers (codes "A.e") (codes "#A.b"))
    (one_more (many (codes "A.e.value") coded)
    (one_more (many (codes "A.e.f") coded)
    (one_more (many (codes "A.g") coded)
    (one_more (many (codes "A.g.value") coded)
    (one_more (many (codes "A.g.f") coded)
    no_items))))))))

abbrev pub referring : SchemaValue
referring = schema_with ((codes "urn:code", code_type) ∷ (codes "urn:A", with_elements referring_elements) ∷ [])

-- the names below its element at a place, and the properties that these are written in
abbrev pub names_below : ℕ → List Text
names_below place = map (λ slot. slot.name) (slots referring (node 1 place))

abbrev pub properties_below : ℕ → List Text
properties_below place = map (λ f. f.property) (forms referring (node 1 place))

-- a type with one element, and a profile on it with one
abbrev pub reason_at : Text → Tree → Tree → Option Reason
reason_at url e f = unusable
    (schema_with ((codes "urn:code", code_type) ∷ (codes "urn:A", with_elements (one_more e no_items)) ∷ (codes "urn:P", profile (one_more f no_items)) ∷ []))
    url

-- ---- companions

-- the type `code`, whose id is a code
abbrev pub identified_code : Tree
identified_code = definition (codes "primitive-type") (codes "code") (with_snapshot
    (one_more (many (codes "code") no_members) (one_more (element (codes "code.id") (codes "0") (codes "1") coded) no_items)))

abbrev pub identified : SchemaValue
identified = schema_with
    ((codes "urn:code", identified_code) ∷ (codes "urn:A", with_elements (one_more (many (codes "A.b") coded) no_items)) ∷ [])

-- `{"resourceType": "A", "_b": [{"id": "i", ..}]}`
abbrev pub with_companion : Members → Tree
with_companion more =
    object
    (member (codes "resourceType") (string (codes "A"))
    (member (codes "_b") (array (one_more (object (member (codes "id") (string (codes "i")) more)) no_items))
    no_members))

-- `"_id": {"id": "j"}`
abbrev pub nested : Members
nested = member (codes "_id") (object (member (codes "id") (string (codes "j")) no_members)) no_members
