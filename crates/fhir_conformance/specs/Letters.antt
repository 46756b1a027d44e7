-- A package of letters, whose sender is of a complex type, which refer to letters that they answer, and which have codes and
-- numbers, each under a rule; a profile on them; and letters, to see which conform.
use Rattle.std.specs.Prelude.{[], ◌∷◌, codes}
use Rattle.fhir_json.specs.Tree.{Text, Tree, number, string, array, object, Items, no_items, item, Members, no_members, member}
use Rattle.fhir_package.specs.Definitions.{Definitions}
use Rattle.fhir_schema.specs.Schemas.{SchemaValue, schema_of}
use Rattle.fhir_instance.specs.TypingExample.{element, definition, of_type, with_snapshot}

-- ---- the definitions

abbrev pub code_type : Tree
code_type = definition (codes "primitive-type") (codes "code") (with_snapshot
    (item (element (codes "code") (codes "0") (codes "*") no_members) no_items))

abbrev pub integer_type : Tree
integer_type = definition (codes "primitive-type") (codes "integer") (with_snapshot
    (item (element (codes "integer") (codes "0") (codes "*") no_members) no_items))

-- another type of resources
abbrev pub memo_type : Tree
memo_type = definition (codes "resource") (codes "Memo") (with_snapshot
    (item (element (codes "Memo") (codes "0") (codes "*") no_members) no_items))

-- one given name or two, and perhaps a title
abbrev pub name_type : Tree
name_type = definition (codes "complex-type") (codes "Name") (with_snapshot
    (item (element (codes "Name") (codes "0") (codes "*") no_members)
    (item (element (codes "Name.given") (codes "1") (codes "2") (of_type (codes "code")))
    (item (element (codes "Name.title") (codes "0") (codes "1") (of_type (codes "code")))
    no_items))))

abbrev pub reference_type : Tree
reference_type = definition (codes "complex-type") (codes "Reference") (with_snapshot
    (item (element (codes "Reference") (codes "0") (codes "*") no_members)
    (item (element (codes "Reference.reference") (codes "0") (codes "1") (of_type (codes "code")))
    no_items)))

-- references to letters, or to what another profile says
abbrev pub to_letters : Members
to_letters =
    member (codes "type") (array (item (object
    (member (codes "code") (string (codes "Reference"))
    (member (codes "targetProfile") (array (item (string (codes "urn:Letter")) (item (string (codes "urn:other")) no_items)))
    no_members))) no_items)) no_members

-- with a value of its own kind in a field
abbrev pub asking : Text → Tree → Text → Members
asking field value type = member field value (of_type type)

-- a code that is bound, so strictly, to a value set that isn't there
abbrev pub bound : Text → Members
bound strength =
    member (codes "binding") (object
    (member (codes "strength") (string strength)
    (member (codes "valueSet") (string (codes "urn:set")) no_members))) (of_type (codes "code"))

abbrev pub snapshot_of_letters : Text → Members
snapshot_of_letters titles = with_snapshot
    (item (element (codes "Letter") (codes "0") (codes "*") no_members)
    (item (element (codes "Letter.sender") (codes "0") (codes "1") (of_type (codes "Name")))
    (item (element (codes "Letter.sender.given") (codes "0") (codes "*") (of_type (codes "code")))
    (item (element (codes "Letter.sender.title") titles (codes "1") (of_type (codes "code")))
    (item (element (codes "Letter.answers") (codes "0") (codes "1") to_letters)
    (item (element (codes "Letter.kind") (codes "0") (codes "1") (bound (codes "required")))
    (item (element (codes "Letter.mood") (codes "0") (codes "1") (bound (codes "preferred")))
    (item (element (codes "Letter.greeting") (codes "0") (codes "1") (asking (codes "patternCode") (string (codes "dear")) (codes "code")))
    (item (element (codes "Letter.language") (codes "0") (codes "1") (asking (codes "fixedCode") (string (codes "en")) (codes "code")))
    (item (element (codes "Letter.farewell") (codes "0") (codes "1") (asking (codes "maxLength") (number (codes "3")) (codes "code")))
    (item (element (codes "Letter.pages") (codes "0") (codes "1") (asking (codes "minValueInteger") (number (codes "1")) (codes "integer")))
    (item (element (codes "Letter.copies") (codes "0") (codes "1") (asking (codes "maxValueInteger") (number (codes "9")) (codes "integer")))
    no_items))))))))))))

abbrev pub letter_type : Tree
letter_type = definition (codes "resource") (codes "Letter") (snapshot_of_letters (codes "0"))

-- the sender has a title
abbrev pub titled : Tree
titled =
    definition (codes "resource") (codes "Letter")
    (member (codes "derivation") (string (codes "constraint"))
    (member (codes "baseDefinition") (string (codes "urn:Letter")) (snapshot_of_letters (codes "1"))))

abbrev pub definitions : Definitions
definitions = record {
  structure_definitions =
      (codes "urn:code", code_type)
      ∷ (codes "urn:Name", name_type)
      ∷ (codes "urn:Reference", reference_type)
      ∷ (codes "urn:Letter", letter_type)
      ∷ (codes "urn:titled", titled)
      ∷ (codes "urn:integer", integer_type)
      ∷ (codes "urn:Memo", memo_type)
      ∷ [];
  value_sets = [];
  code_systems = [];
}

abbrev pub letters : SchemaValue
letters = schema_of definitions

-- ---- letters

abbrev pub letter : Members → Tree
letter more = object (member (codes "resourceType") (string (codes "Letter")) more)

abbrev pub given : Items → Members → Members
given names more = member (codes "given") (array names) more

abbrev pub title : Members
title = member (codes "title") (string (codes "t")) no_members

abbrev pub from : Members → Tree
from sender = letter (member (codes "sender") (object sender) no_members)

abbrev pub answering : Text → Tree
answering reference =
    letter (member (codes "answers") (object (member (codes "reference") (string reference) no_members)) no_members)

-- with a value in an element of that name
abbrev pub saying : Text → Tree → Tree
saying name value = letter (member name value no_members)

abbrev pub coded : Text → Text → Tree
coded name code = saying name (string code)

abbrev pub counted : Text → Text → Tree
counted name digits = saying name (number digits)

-- no letter
abbrev pub memo : Tree
memo = object (member (codes "resourceType") (string (codes "Memo")) no_members)

abbrev pub one_name : Items
one_name = item (string (codes "a")) no_items

abbrev pub three_names : Items
three_names = item (string (codes "a")) (item (string (codes "b")) (item (string (codes "c")) no_items))
