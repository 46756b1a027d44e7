-- Boxes, which have a title and contain notes, which have a text; a constraint stands at a note, or at its text.
use Rattle.std.specs.Prelude.{[], ◌∷◌, Bool, Option, codes}
use Rattle.fhir_json.specs.Tree.{Text, Tree, string, array, object, no_items, item, Members, no_members, member}
use Rattle.fhir_schema.specs.Schemas.{SchemaValue, schema_of}
use Rattle.fhir_instance.specs.TypingExample.{element, definition, of_type, with_snapshot}
use Rattle.fhir_conformance.specs.Conformance.{Interpretation}
use Rattle.fhir_conformance.specs.Recipes.{code_type, rule, rules}
use Rattle.judged_examples.specs.Ordering.{judged}

-- ---- the definitions

-- an error, if that expression isn't true
abbrev pub error_unless : Text → Members → Members
error_unless expression more = rules (item (rule (codes "n-1") (codes "error") expression) no_items) more

-- what a note says, and what its text says
abbrev pub note_type : Members → Members → Tree
note_type note text = definition (codes "resource") (codes "Note") (with_snapshot
    (item (element (codes "Note") (codes "0") (codes "*") note)
    (item (element (codes "Note.text") (codes "0") (codes "1") text)
    no_items)))

abbrev pub box_type : Tree
box_type = definition (codes "resource") (codes "Box") (with_snapshot
    (item (element (codes "Box") (codes "0") (codes "*") no_members)
    (item (element (codes "Box.title") (codes "0") (codes "1") (of_type (codes "code")))
    (item (element (codes "Box.contained") (codes "0") (codes "*") (of_type (codes "Note")))
    no_items))))

abbrev pub boxes : Tree → SchemaValue
boxes note = schema_of (record {
  structure_definitions = (codes "urn:code", code_type) ∷ (codes "urn:Note", note) ∷ (codes "urn:Box", box_type) ∷ [];
  value_sets = [];
  code_systems = [];
})

-- ---- a box

-- `{"resourceType": "Box", "title": "b", "contained": [{"resourceType": "Note", "text": "n"}]}`
abbrev pub box : Tree
box =
    object
    (member (codes "resourceType") (string (codes "Box"))
    (member (codes "title") (string (codes "b"))
    (member (codes "contained") (array (item (object
    (member (codes "resourceType") (string (codes "Note")) (member (codes "text") (string (codes "n")) no_members))) no_items))
    no_members)))

-- whether the box conforms, where notes have to meet that expression, or their texts have to
abbrev pub judged_of_note : Interpretation → Text → Option Bool
judged_of_note meaning expression =
    judged (boxes (note_type (error_unless expression no_members) (of_type (codes "code")))) meaning (codes "urn:Box") box

abbrev pub judged_of_text : Interpretation → Text → Option Bool
judged_of_text meaning expression =
    judged (boxes (note_type no_members (error_unless expression (of_type (codes "code"))))) meaning (codes "urn:Box") box
