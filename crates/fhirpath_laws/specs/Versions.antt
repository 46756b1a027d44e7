-- Two types, of which one has a version, and which of them a canonical names.
use Rattle.std.specs.Prelude.{ℕ, List, [], ◌∷◌, map, Option, codes}
use Rattle.fhir_json.specs.Tree.{Text, string, no_items, item, Members, no_members, member}
use Rattle.fhir_definition.specs.Definition.{Definition}
use Rattle.fhir_nodes.specs.Urls.{canonical_place}
use Rattle.fhir_schema.specs.Schemas.{schema_of}
use Rattle.fhir_instance.specs.TypingExample.{element, definition, with_snapshot}

abbrev pub bare : Text → Members
bare type = with_snapshot (item (element type (codes "0") (codes "*") no_members) no_items)

abbrev pub definitions : List Definition
definitions = (schema_of (record {
  structure_definitions =
      (codes "urn:A", definition (codes "resource") (codes "A") (member (codes "version") (string (codes "1")) (bare (codes "A"))))
      ∷ (codes "urn:B", definition (codes "resource") (codes "B") (bare (codes "B")))
      ∷ [];
  value_sets = [];
  code_systems = [];
})).definitions

-- the places of the definitions that canonicals name
abbrev pub places_named : List Text → List (Option ℕ)
places_named canonicals = map (canonical_place definitions) canonicals
