-- An element of a type A that is sliced, and a slice of it with a child: which slicings tell which items belong to the slice.
use Rattle.std.specs.Prelude.{Option, true, codes}
use Rattle.fhir_json.specs.Tree.{Text, Tree, boolean, string, array, object, no_items, Members, no_members, member}
use Rattle.fhir_json.specs.Tree.{item as one_more}
use Rattle.fhir_elements.specs.declared.reason.Reason.{Reason}
use Rattle.fhir_instance.specs.TypingExample.{element}
use Rattle.worked_examples.specs.Schemas.{reason_of, many, coded, with_elements}

abbrev pub by : Text → Text → Tree
by type path =
    array (one_more (object (member (codes "type") (string type) (member (codes "path") (string path) no_members))) no_items)

-- a slicing by one discriminator
abbrev pub sliced_by : Text → Text → Members → Tree
sliced_by type path more =
    many (codes "A.b") (member (codes "slicing") (object (member (codes "discriminator") (by type path) more)) coded)

-- why the type can't be used whose element is sliced so, and whose slice has that child
abbrev pub reason_for : Tree → Tree → Option Reason
reason_for sliced child =
    reason_of (with_elements (one_more sliced (one_more (many (codes "A.b:s") coded) (one_more child no_items))))

abbrev pub child : Text → Text → Members → Tree
child min max more = element (codes "A.b:s.c") min max more

-- any number of them
abbrev pub any : Tree
any = child (codes "0") (codes "*") coded

abbrev pub fixed_to_a : Members
fixed_to_a = member (codes "fixedCode") (string (codes "a")) coded

abbrev pub like_a : Members
like_a = member (codes "patternCode") (string (codes "a")) coded

abbrev pub of_rules : Text → Members
of_rules rules = member (codes "rules") (string rules) no_members

abbrev pub ordered : Members
ordered = member (codes "ordered") (boolean true) no_members
