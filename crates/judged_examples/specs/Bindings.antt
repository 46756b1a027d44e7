-- Values that name no concept.
use Rattle.std.specs.Prelude.{codes}
use Rattle.fhir_json.specs.Tree.{Tree, string, object, no_members, member}

-- `{"system": "urn:s", "display": "A"}`, a Coding without a code
abbrev pub codeless : Tree
codeless = object (member (codes "system") (string (codes "urn:s")) (member (codes "display") (string (codes "A")) no_members))

-- `{"text": "a"}`, a CodeableConcept without codings
abbrev pub texted : Tree
texted = object (member (codes "text") (string (codes "a")) no_members)
