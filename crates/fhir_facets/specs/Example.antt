-- Values that the examples of facets are asked of.
use Rattle.std.specs.Prelude.{true, false, None, Some, codes}
use Rattle.fhir_json.specs.Tree.{Text, Tree, number, string, array, object, Items, no_members, member}
use Rattle.fhir_codes.specs.Concepts.{Concepts}
use Rattle.fhir_facets.specs.Bindings.{Binding}
use Rattle.fhir_facets.specs.Seen.{Seen}
use Rattle.fhir_facets.specs.Ranges.{Range}

-- a value of a type, without children
abbrev pub plain : Text → Tree → Seen
plain type value = record { type = type; json = Some value; has_kids = false }

-- the same with children, as an id
abbrev pub extended : Text → Tree → Seen
extended type value = record { type = type; json = Some value; has_kids = true }

-- a primitive of that type that has children alone
abbrev pub valueless : Text → Seen
valueless type = record { type = type; json = None; has_kids = true }

abbrev pub decimal : Text → Seen
decimal digits = plain (codes "decimal") (number digits)

abbrev pub date : Text → Seen
date text = plain (codes "date") (string text)

abbrev pub date_time : Text → Seen
date_time text = plain (codes "dateTime") (string text)

-- bounds on one side
abbrev pub from : Text → Tree → Range
from property value = record { least = Some (property, value); most = None }

abbrev pub to : Text → Tree → Range
to property value = record { least = None; most = Some (property, value) }

-- `{"value": 1}`
abbrev pub one : Tree
one = object (member (codes "value") (number (codes "1")) no_members)

-- `{"unit": "m", "value": 1}`
abbrev pub one_metre : Tree
one_metre = object (member (codes "unit") (string (codes "m")) (member (codes "value") (number (codes "1")) no_members))

-- `{"reference": ..}`
abbrev pub reference : Text → Seen
reference to = plain (codes "Reference") (object (member (codes "reference") (string to) no_members))

-- ---- codes

-- `{"system": "urn:s", "code": ..}`
abbrev pub coding : Text → Tree
coding code = object (member (codes "system") (string (codes "urn:s")) (member (codes "code") (string code) no_members))

-- the same without a system
abbrev pub no_coding : Text → Tree
no_coding code = object (member (codes "code") (string code) no_members)

abbrev pub concept_of : Items → Tree
concept_of codings = object (member (codes "coding") (array codings) no_members)

-- bindings to a set that is known, and to one that isn't
abbrev pub known : Concepts → Binding
known s = record { canonical = codes "urn:set"; concepts = Some s }

abbrev pub unknown : Binding
unknown = record { canonical = codes "urn:set"; concepts = None }
