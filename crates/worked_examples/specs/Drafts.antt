-- A profile that is written by differential, and the elements of its snapshot.
use Rattle.std.specs.Prelude.{List, [], ◌∷◌, Some, codes}
use Rattle.fhir_json.specs.Tree.{Tree, number, string, array, object, Items, no_items, Members, no_members, member}
use Rattle.fhir_json.specs.Tree.{item as one_more}
use Rattle.fhir_elements.specs.declared.constraint.Severity.TheVariants.{Error}
use Rattle.fhir_elements.specs.Element.{Element, fields_of}
use Rattle.fhir_package.specs.Definitions.{Definitions}
use Rattle.fhir_instance.specs.TypingExample.{definition}
use Rattle.worked_examples.specs.Schemas.{many, coded, with_elements}

-- a type A with two elements
abbrev pub b_in_type : Tree
b_in_type = many (codes "A.b") coded

abbrev pub c_in_type : Tree
c_in_type = many (codes "A.c") coded

abbrev pub type_tree : Tree
type_tree = with_elements (one_more b_in_type (one_more c_in_type no_items))

-- of the first, at least one, by a rule, and a slice
abbrev pub rule : Tree
rule =
    object
    (member (codes "key") (string (codes "r"))
    (member (codes "severity") (string (codes "error"))
    (member (codes "expression") (string (codes "exists()"))
    no_members)))

abbrev pub differential : Items
differential =
    one_more (object
    (member (codes "id") (string (codes "A.b"))
    (member (codes "min") (number (codes "1"))
    (member (codes "constraint") (array (one_more rule no_items))
    no_members))))
    (one_more (object (member (codes "id") (string (codes "A.b:s")) (member (codes "sliceName") (string (codes "s")) no_members)))
    no_items)

abbrev pub draft : Tree
draft =
    definition (codes "resource") (codes "A")
    (member (codes "derivation") (string (codes "constraint"))
    (member (codes "baseDefinition") (string (codes "urn:A"))
    (member (codes "differential") (object (member (codes "element") (array differential) no_members))
    no_members)))

abbrev pub drafts : Definitions
drafts = record {
  structure_definitions = (codes "urn:A", type_tree) ∷ (codes "urn:P", draft) ∷ [];
  value_sets = [];
  code_systems = [];
}

-- ---- the elements

abbrev pub root_element : Element
root_element = fields_of (many (codes "A") no_members)

-- what isn't said is the type's
abbrev pub b_element : Element
b_element = record (fields_of b_in_type) {
  min = Some 1;
  constraints = record { key = codes "r"; severity = Some Error; expression = Some (codes "exists()") } ∷ [];
}

-- the slice inherits from it, and there need be none
abbrev pub slice_element : Element
slice_element = record b_element { id = codes "A.b:s"; path = Some (codes "A.b"); slice_name = Some (codes "s"); min = Some 0 }

abbrev pub c_element : Element
c_element = fields_of c_in_type

abbrev pub draft_elements : List Element
draft_elements = root_element ∷ b_element ∷ slice_element ∷ c_element ∷ []
