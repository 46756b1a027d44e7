-- Types that rest on one another, as in FHIR R4: an Age on Quantity, a code on string, a Patient on DomainResource and that on Resource; a
-- profile of Patient; and whether an item of a type is of another one.
use Rattle.std.specs.Prelude.{[], ◌∷◌, codes}
use Rattle.fhir_json.specs.Tree.{Text, Tree, string, no_items, item, Members, no_members, member}
use Rattle.fhir_schema.specs.Schemas.{SchemaValue, schema_of}
use Rattle.fhir_instance.specs.Items.{no_kids}
use Rattle.fhir_instance.specs.TypingExample.{element, definition, with_snapshot}
use Rattle.fhir_fp_syntax.specs.Expression.{this, typed}
use Rattle.fhir_fp_syntax.specs.declared.expr.TypeTest.{TypeTest}
use Rattle.fhir_fp_values.specs.Values.{node}
use Rattle.fhir_fp_eval.specs.Meaning.{Found, den}
use Rattle.fhir_fp_eval.specs.Example.{patient, whole}

abbrev pub bare : Text → Members
bare type = with_snapshot (item (element type (codes "0") (codes "*") no_members) no_items)

abbrev pub based_on : Text → Text → Text → Tree
based_on base kind type = definition kind type (member (codes "baseDefinition") (string base) (bare type))

abbrev pub patient_profile : Tree
patient_profile =
    definition (codes "resource") (codes "Patient")
    (member (codes "derivation") (string (codes "constraint")) (member (codes "baseDefinition") (string (codes "urn:Patient")) (bare (codes "Patient"))))

abbrev pub kin : SchemaValue
kin = schema_of (record {
  structure_definitions =
      (codes "urn:string", definition (codes "primitive-type") (codes "string") (bare (codes "string")))
      ∷ (codes "urn:code", based_on (codes "urn:string") (codes "primitive-type") (codes "code"))
      ∷ (codes "urn:Quantity", definition (codes "complex-type") (codes "Quantity") (bare (codes "Quantity")))
      ∷ (codes "urn:Age", based_on (codes "urn:Quantity") (codes "complex-type") (codes "Age"))
      ∷ (codes "urn:Resource", definition (codes "resource") (codes "Resource") (bare (codes "Resource")))
      ∷ (codes "urn:DomainResource", based_on (codes "urn:Resource") (codes "resource") (codes "DomainResource"))
      ∷ (codes "urn:Patient", based_on (codes "urn:DomainResource") (codes "resource") (codes "Patient"))
      ∷ (codes "urn:Group", based_on (codes "urn:DomainResource") (codes "resource") (codes "Group"))
      ∷ (codes "urn:patients", patient_profile)
      ∷ [];
  value_sets = [];
  code_systems = [];
})

-- what the test of a type gives of an item of one
abbrev pub tested : TypeTest → (own : Text) → (type : Text) → Found
tested test own type = den (record { schema = kin; resource = patient; context = patient }) (typed test this type) (node (whole own no_kids))
