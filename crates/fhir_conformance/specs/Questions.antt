-- A package of questionnaires, whose items have items, without end, and which may contain questionnaires; and some of them, to
-- see which conform.
use Rattle.std.specs.Prelude.{[], ◌∷◌, codes}
use Rattle.fhir_json.specs.Tree.{Tree, string, array, object, no_items, item, Members, no_members, member}
use Rattle.fhir_package.specs.Definitions.{Definitions}
use Rattle.fhir_schema.specs.Schemas.{SchemaValue, schema_of}
use Rattle.fhir_instance.specs.TypingExample.{element, definition, of_type, with_snapshot}
use Rattle.fhir_conformance.specs.Letters.{code_type}

-- ---- the definitions

abbrev pub part_type : Tree
part_type = definition (codes "complex-type") (codes "Part") (with_snapshot
    (item (element (codes "Part") (codes "0") (codes "*") no_members) no_items))

-- the items of an item are as those of the questionnaire
abbrev pub as_items : Members
as_items = member (codes "contentReference") (string (codes "#Questionnaire.item")) no_members

abbrev pub questionnaire_type : Tree
questionnaire_type = definition (codes "resource") (codes "Questionnaire") (with_snapshot
    (item (element (codes "Questionnaire") (codes "0") (codes "*") no_members)
    (item (element (codes "Questionnaire.contained") (codes "0") (codes "*") (of_type (codes "Questionnaire")))
    (item (element (codes "Questionnaire.item") (codes "0") (codes "*") (of_type (codes "Part")))
    (item (element (codes "Questionnaire.item.id") (codes "1") (codes "1") (of_type (codes "code")))
    (item (element (codes "Questionnaire.item.text") (codes "0") (codes "1") (of_type (codes "code")))
    (item (element (codes "Questionnaire.item.item") (codes "0") (codes "*") as_items)
    no_items)))))))

abbrev pub definitions : Definitions
definitions = record {
  structure_definitions = (codes "urn:code", code_type) ∷ (codes "urn:Part", part_type) ∷ (codes "urn:Questionnaire", questionnaire_type) ∷ [];
  value_sets = [];
  code_systems = [];
}

abbrev pub questions : SchemaValue
questions = schema_of definitions

-- ---- questionnaires

abbrev pub questionnaire : Members → Tree
questionnaire more = object (member (codes "resourceType") (string (codes "Questionnaire")) more)

-- one item
abbrev pub one_item : Tree → Members
one_item part = member (codes "item") (array (item part no_items)) no_members

abbrev pub contained : Tree → Members
contained resource = member (codes "contained") (array (item resource no_items)) no_members

-- an item with an id, and one with a text alone
abbrev pub identified : Members → Tree
identified more = object (member (codes "id") (string (codes "a")) more)

abbrev pub texted : Tree
texted = object (member (codes "text") (string (codes "t")) no_members)

-- a questionnaire of an item, which has an item, which has this item
abbrev pub nested : Tree → Tree
nested innermost = questionnaire (one_item (identified (one_item (identified (one_item innermost)))))

-- a questionnaire that contains one that contains one with this item
abbrev pub nested_resources : Tree → Tree
nested_resources innermost = questionnaire (contained (questionnaire (contained (questionnaire (one_item innermost)))))
