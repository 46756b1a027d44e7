-- Elements of which one field is of the wrong kind, or has a word that isn't in its set.
use Rattle.std.specs.Prelude.{List, [], ◌∷◌, Bool, true, false, Option, Some, codes}
use Rattle.std.specs.List.{list_all}
use Rattle.fhir_json.specs.Tree.{Text, Tree, boolean, number, string, array, object, no_items, item, Members, no_members, member}
use Rattle.fhir_elements.specs.declared.reason.Reason.{Reason}
use Rattle.fhir_elements.specs.declared.reason.Reason.TheVariants.{WrongField}
use Rattle.fhir_elements.specs.Element.{element_fault}

-- an element with such fields
abbrev pub with_fields : Members → Tree
with_fields more = object (member (codes "id") (string (codes "A.b")) more)

abbrev pub with_field : Text → Tree → Tree
with_field name value = with_fields (member name value no_members)

abbrev pub text : Tree
text = string (codes "x")

abbrev pub one : Tree
one = number (codes "1")

abbrev pub one_of : Tree → Tree
one_of t = array (item t no_items)

-- `{name: value}`
abbrev pub just : Text → Tree → Tree
just name value = object (member name value no_members)

-- texts that are numbers
abbrev pub wrong_texts : List Tree
wrong_texts =
    object (member (codes "id") one no_members)
    ∷ with_field (codes "path") one
    ∷ with_field (codes "sliceName") one
    ∷ with_field (codes "contentReference") one
    ∷ []

-- numbers that are texts, or below 0, or no whole numbers; and a `max` that is a number
abbrev pub wrong_numbers : List Tree
wrong_numbers =
    with_field (codes "min") (string (codes "1"))
    ∷ with_field (codes "min") (number (codes "-1"))
    ∷ with_field (codes "min") (number (codes "1.5"))
    ∷ with_field (codes "max") one
    ∷ with_field (codes "max") (string (codes "many"))
    ∷ with_field (codes "maxLength") (string (codes "1"))
    ∷ with_field (codes "maxLength") (number (codes "1.5"))
    ∷ []

-- values of two types where there may be one
abbrev pub twice : Text → Text → Tree
twice name other = with_fields (member name text (member other text no_members))

abbrev pub doubled_choices : List Tree
doubled_choices =
    twice (codes "fixedCode") (codes "fixedString")
    ∷ twice (codes "patternCode") (codes "patternString")
    ∷ twice (codes "minValueDate") (codes "minValueInstant")
    ∷ twice (codes "maxValueDate") (codes "maxValueInstant")
    ∷ []

-- types that are no array, or of which one has no code, or profiles that are no array of texts
abbrev pub typed : Members → Tree
typed more = with_field (codes "type") (one_of (object (member (codes "code") (string (codes "Reference")) more)))

abbrev pub wrong_types : List Tree
wrong_types =
    with_field (codes "type") (just (codes "code") text)
    ∷ with_field (codes "type") (one_of text)
    ∷ with_field (codes "type") (one_of (object no_members))
    ∷ with_field (codes "type") (one_of (just (codes "code") one))
    ∷ typed (member (codes "profile") text no_members)
    ∷ typed (member (codes "profile") (one_of one) no_members)
    ∷ typed (member (codes "targetProfile") text no_members)
    ∷ typed (member (codes "targetProfile") (one_of one) no_members)
    ∷ []

-- constraints that are no array, or of which one has no key, or another severity than the standard has, or an expression that is no text
abbrev pub constrained : Members → Tree
constrained more = with_field (codes "constraint") (one_of (object (member (codes "key") (string (codes "k-1")) more)))

abbrev pub wrong_constraints : List Tree
wrong_constraints =
    with_field (codes "constraint") (just (codes "key") text)
    ∷ with_field (codes "constraint") (one_of text)
    ∷ with_field (codes "constraint") (one_of (object no_members))
    ∷ with_field (codes "constraint") (one_of (just (codes "key") one))
    ∷ constrained (member (codes "severity") (string (codes "Error")) no_members)
    ∷ constrained (member (codes "severity") one no_members)
    ∷ constrained (member (codes "expression") one no_members)
    ∷ []

-- a binding that is no object, or has another strength than the standard has, or a value set that is no text
abbrev pub wrong_bindings : List Tree
wrong_bindings =
    with_field (codes "binding") text
    ∷ with_field (codes "binding") (just (codes "strength") (string (codes "Required")))
    ∷ with_field (codes "binding") (just (codes "strength") one)
    ∷ with_field (codes "binding") (just (codes "valueSet") (just (codes "reference") text))
    ∷ []

-- a slicing that is no object, or has discriminators that are no array, or one of another type than the standard has, or of a path that is
-- no text, or other rules, or an order that is no truth value
abbrev pub sliced : Text → Tree → Tree
sliced name value = with_field (codes "slicing") (just name value)

abbrev pub wrong_slicings : List Tree
wrong_slicings =
    with_field (codes "slicing") text
    ∷ sliced (codes "discriminator") (just (codes "type") (string (codes "value")))
    ∷ sliced (codes "discriminator") (one_of text)
    ∷ sliced (codes "discriminator") (one_of (just (codes "type") (string (codes "Value"))))
    ∷ sliced (codes "discriminator") (one_of (just (codes "path") one))
    ∷ sliced (codes "rules") (string (codes "Closed"))
    ∷ sliced (codes "rules") (boolean true)
    ∷ sliced (codes "ordered") (string (codes "true"))
    ∷ []

-- each is no element, since a field is wrong
abbrev pub is_wrong_field : Option Reason → Bool
is_wrong_field (Some WrongField) = true
is_wrong_field _ = false

abbrev pub are_wrong : List Tree → Bool
are_wrong ts = list_all (λ t. is_wrong_field (element_fault t)) ts
