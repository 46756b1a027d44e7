-- Heads of definitions: some that are right, and some of which one field is wrong.
use Rattle.std.specs.Prelude.{List, [], ◌∷◌, Bool, true, false, Option, None, Some, codes}
use Rattle.std.specs.List.{list_all}
use Rattle.fhir_json.specs.Tree.{Text, Tree, boolean, number, string, array, object, no_items, Members, no_members, member}
use Rattle.fhir_elements.specs.declared.reason.Reason.{Reason}
use Rattle.fhir_elements.specs.declared.reason.Reason.TheVariants.{WrongField}
use Rattle.fhir_definition.specs.Definition.{definition_of}

-- of a kind and a type, with more
abbrev pub head : Text → Text → Members → Tree
head kind type more = object (member (codes "kind") (string kind) (member (codes "type") (string type) more))

-- of a resource A, with one more field
abbrev pub with_field : Text → Tree → Tree
with_field name value = head (codes "resource") (codes "A") (member name value no_members)

abbrev pub no_elements : Tree
no_elements = object (member (codes "element") (array no_items) no_members)

abbrev pub right_heads : List Tree
right_heads =
    head (codes "resource") (codes "A") no_members
    ∷ head (codes "complex-type") (codes "A") no_members
    ∷ head (codes "primitive-type") (codes "code") no_members
    ∷ with_field (codes "version") (string (codes "1"))
    ∷ with_field (codes "abstract") (boolean true)
    ∷ with_field (codes "baseDefinition") (string (codes "urn:B"))
    ∷ with_field (codes "derivation") (string (codes "constraint"))
    ∷ with_field (codes "snapshot") no_elements
    ∷ []

-- of no kind, of a kind that is misspelt, of no type, and of a primitive type that the standard doesn't have; with a version that is a
-- number, an `abstract` that is a text, a base that is a number, a derivation that is misspelt or a truth value, and a snapshot that is an
-- array, or whose elements are none
abbrev pub wrong_heads : List Tree
wrong_heads =
    object (member (codes "type") (string (codes "A")) no_members)
    ∷ head (codes "Resource") (codes "A") no_members
    ∷ object (member (codes "kind") (string (codes "resource")) no_members)
    ∷ head (codes "primitive-type") (codes "colour") no_members
    ∷ with_field (codes "version") (number (codes "1"))
    ∷ with_field (codes "abstract") (string (codes "true"))
    ∷ with_field (codes "baseDefinition") (number (codes "1"))
    ∷ with_field (codes "derivation") (string (codes "Constraint"))
    ∷ with_field (codes "derivation") (boolean true)
    ∷ with_field (codes "snapshot") (array no_items)
    ∷ with_field (codes "snapshot") (object (member (codes "element") (object no_members) no_members))
    ∷ []

-- why a definition can't be used by itself
abbrev pub fault_of : Text → Tree → Option Reason
fault_of url t = (definition_of 0 url t).fault

abbrev pub is_right : Option Reason → Bool
is_right None = true
is_right (Some reason) = false

abbrev pub is_wrong_field : Option Reason → Bool
is_wrong_field (Some WrongField) = true
is_wrong_field _ = false

abbrev pub are_right : List Tree → Bool
are_right ts = list_all (λ t. is_right (fault_of (codes "urn:A") t)) ts

abbrev pub are_wrong : List Tree → Bool
are_wrong ts = list_all (λ t. is_wrong_field (fault_of (codes "urn:A") t)) ts
