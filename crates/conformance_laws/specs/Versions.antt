-- Definitions with a version, without one, and one that can't be used.
use Rattle.std.specs.Prelude.{ℕ, [], ◌∷◌, Option, codes}
use Rattle.fhir_json.specs.Tree.{Text, Tree, string, no_items, item, no_members, Members, member}
use Rattle.fhir_nodes.specs.declared.node.NodeRef.{NodeRef}
use Rattle.fhir_schema.specs.Schemas.{SchemaValue, schema_of, loaded}
use Rattle.fhir_instance.specs.TypingExample.{element, definition, with_snapshot}

abbrev pub of_type : Text → Members → Tree
of_type type more = definition (codes "resource") type more

abbrev pub whole : Text → Members
whole type = with_snapshot (item (element type (codes "0") (codes "*") no_members) no_items)

-- A has the version 2, B none, and C, which has the version 2, a derivation that is misspelt
abbrev pub versions : SchemaValue
versions = schema_of (record {
  structure_definitions =
      (codes "urn:A", of_type (codes "A") (member (codes "version") (string (codes "2")) (whole (codes "A"))))
      ∷ (codes "urn:B", of_type (codes "B") (whole (codes "B")))
      ∷ (codes "urn:C", of_type (codes "C") (member (codes "version") (string (codes "2")) (member (codes "derivation") (string (codes "Constraint")) (whole (codes "C")))))
      ∷ [];
  value_sets = [];
  code_systems = [];
})

-- the root of the definition that a canonical names, if that can be used
abbrev pub found : Text → Option NodeRef
found canonical = loaded versions canonical

abbrev pub root_of : ℕ → NodeRef
root_of place = record { definition = place; element = 0 }
