-- A package of resources, of which Patient rests on DomainResource and that on Resource, and a profile of Patient: to which types a
-- reference may lead.
use Rattle.std.specs.Prelude.{[], ◌∷◌, Bool, codes}
use Rattle.fhir_json.specs.Tree.{Text, Tree, string, no_items, item, Members, no_members, member}
use Rattle.fhir_elements.specs.TypeEntry.{TypeEntry}
use Rattle.fhir_schema.specs.Schemas.{SchemaValue, schema_of}
use Rattle.fhir_instance.specs.TypingExample.{element, definition, with_snapshot}
use Rattle.fhir_facets.specs.Unread.{Meaning}
use Rattle.fhir_facets.specs.Example.{reference}
use Rattle.fhir_facets.specs.Targets.{targets_hold, targets_narrower}

-- ---- the definitions

abbrev pub bare : Text → Members
bare type = with_snapshot (item (element type (codes "0") (codes "*") no_members) no_items)

abbrev pub based_on : Text → Text → Tree
based_on base type = definition (codes "resource") type (member (codes "baseDefinition") (string base) (bare type))

abbrev pub patient_profile : Tree
patient_profile =
    definition (codes "resource") (codes "Patient")
    (member (codes "derivation") (string (codes "constraint")) (member (codes "baseDefinition") (string (codes "urn:Patient")) (bare (codes "Patient"))))

abbrev pub resources : SchemaValue
resources = schema_of (record {
  structure_definitions =
      (codes "urn:Resource", definition (codes "resource") (codes "Resource") (bare (codes "Resource")))
      ∷ (codes "urn:DomainResource", based_on (codes "urn:Resource") (codes "DomainResource"))
      ∷ (codes "urn:Patient", based_on (codes "urn:DomainResource") (codes "Patient"))
      ∷ (codes "urn:Group", based_on (codes "urn:DomainResource") (codes "Group"))
      ∷ (codes "urn:patients", patient_profile)
      ∷ [];
  value_sets = [];
  code_systems = [];
})

-- ---- references

abbrev pub to_target : Text → TypeEntry
to_target canonical = record { code = codes "Reference"; profiles = []; targets = canonical ∷ [] }

-- a reference of that text may stand where the target profile is that
abbrev pub may_refer : Meaning → (target : Text) → (text : Text) → Bool
may_refer m target text = targets_hold resources m (to_target target) (reference text)

-- a target profile in a profile's own type entry answers that of the base
abbrev pub narrows : (own : Text) → (base : Text) → Bool
narrows own base = targets_narrower resources (to_target own) (to_target base)
