-- A type with an element in slices, and a profile on it: the rules of their children.
use Rattle.std.specs.Prelude.{[], ◌∷◌, Option, codes}
use Rattle.fhir_json.specs.Tree.{Text, Tree, string, array, object, Items, no_items, no_members, member}
use Rattle.fhir_json.specs.Tree.{item as one_more}
use Rattle.fhir_instance.specs.TypingExample.{element}
use Rattle.fhir_cert_check.specs.Rule.{RuleName}
use Rattle.fhir_cert_check.specs.Rules.{failing_rule}
use Rattle.fhir_cert_check.specs.Asked.{kids_pair}
use Rattle.worked_examples.specs.Schemas.{schema_with, many, code_type, coded, with_elements}
use Rattle.worked_examples.specs.Roots.{node, profile, all_pairs}

-- told apart by the value itself
abbrev pub by_value : Tree
by_value = object (member (codes "type") (string (codes "value")) (member (codes "path") (string (codes "$this")) no_members))

-- an element of any number of items, in slices by these rules
abbrev pub sliced : Text → Items → Items
sliced rules slices =
    one_more (many (codes "A.b") (member (codes "slicing") (object
    (member (codes "discriminator") (array (one_more by_value no_items)) (member (codes "rules") (string rules) no_members))) coded))
    slices

-- a slice whose items have that value
abbrev pub slice_of : Text → Text → Text → Items → Items
slice_of id max value more =
    one_more (element id (codes "0") max (member (codes "fixedCode") (string value) coded)) more

abbrev pub slice_x : Text → Items → Items
slice_x max more = slice_of (codes "A.b:x") max (codes "x") more

abbrev pub slice_y : Text → Items → Items
slice_y max more = slice_of (codes "A.b:y") max (codes "y") more

-- the first rule that fails of a profile's children and of their type's
abbrev pub failing_slice : Items → Items → Option RuleName
failing_slice own base =
    failing_rule all_pairs
    (schema_with ((codes "urn:code", code_type) ∷ (codes "urn:A", with_elements base) ∷ (codes "urn:P", profile own) ∷ []))
    (kids_pair (node 1 0) (node 2 0))
