-- People, whose elements stand as no element may, or as they must.
use Rattle.std.specs.Prelude.{Bool, is_some, codes}
use Rattle.fhir_json.specs.Tree.{Tree, string, array, object, Items, no_items, no_members, member}
use Rattle.fhir_json.specs.Tree.{item as one_more}
use Rattle.fhir_instance.specs.Typing.{resource}
use Rattle.fhir_instance.specs.TypingExample.{schema, person_of, companion}

-- the tree is a resource
abbrev pub is_typed : Tree → Bool
is_typed t = is_some (resource schema t)

-- `{}`
abbrev pub empty : Tree
empty = object no_members

-- ---- given names and their companions

abbrev pub one_text : Items
one_text = one_more (string (codes "a")) no_items

abbrev pub two_texts : Items
two_texts = one_more (string (codes "a")) (one_more (string (codes "b")) no_items)

abbrev pub one_companion : Items
one_companion = one_more companion no_items

abbrev pub two_companions : Items
two_companions = one_more companion (one_more companion no_items)

-- `{"resourceType": "Person", "name": [{"given": texts, "_given": companions}]}`
abbrev pub given : Items → Items → Tree
given texts companions =
    person_of (codes "name") (array (one_more
    (object (member (codes "given") (array texts) (member (codes "_given") (array companions) no_members))) no_items))
