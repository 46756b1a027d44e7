-- Elements that name a profile, the target of a reference or a value set by one canonical.
use Rattle.std.specs.Prelude.{List, [], ◌∷◌, not, Bool, codes}
use Rattle.std.specs.List.{list_all}
use Rattle.fhir_json.specs.Tree.{Text, Tree, number, string, array, object, no_items, item, Members, no_members, member}
use Rattle.fhir_elements.specs.Element.{fields_of}
use Rattle.fhir_definition.specs.Definition.{is_whole}

-- an element of a snapshot of a type
abbrev pub with_type : Members → Members → Tree
with_type type more = object (member (codes "id") (string (codes "A.b")) (member (codes "min") (number (codes "0"))
    (member (codes "max") (string (codes "1")) (member (codes "type") (array (item (object type) no_items)) more))))

abbrev pub of_code : Text → Members → Members
of_code code more = member (codes "code") (string code) more

abbrev pub one_text : Text → Tree
one_text text = array (item (string text) no_items)

-- by a profile, by a target, and by a required binding
abbrev pub naming : Text → List Tree
naming canonical =
    with_type (of_code (codes "HumanName") (member (codes "profile") (one_text canonical) no_members)) no_members
    ∷ with_type (of_code (codes "Reference") (member (codes "targetProfile") (one_text canonical) no_members)) no_members
    ∷ with_type (of_code (codes "code") no_members)
    (member (codes "binding") (object (member (codes "strength") (string (codes "required"))
    (member (codes "valueSet") (string canonical) no_members))) no_members)
    ∷ []

-- each may be an element of a snapshot
abbrev pub are_whole : List Tree → Bool
are_whole ts = list_all (λ t. is_whole (fields_of t)) ts

-- none may
abbrev pub are_none : List Tree → Bool
are_none ts = list_all (λ t. not (is_whole (fields_of t))) ts
