-- Files of which nothing is wrong.
use Rattle.std.specs.Prelude.{◌≡◌, true, None}
use Rattle.fhir_json.specs.Tree.{Text}
use Rattle.fhir_package.specs.declared.kind.Kind.TheVariants.{StructureDefinition}
use Rattle.fhir_package.specs.Definitions.{Definitions}
use Rattle.fhir_schema.specs.Schemas.{SchemaValue, schema_of, unusable}
use Rattle.fhir_findings.specs.Selecting.{SelectionValue, is_selected}

-- no url leads to a definition that can't be used
abbrev pub AreUsable : SchemaValue → Type 0
AreUsable s = (url : Text) → unusable s url ≡ None

-- the same of the urls of a package that are selected
abbrev pub AreSelectedUsable : SelectionValue → Definitions → Type 0
AreSelectedUsable selection p = (url : Text) → is_selected selection p StructureDefinition url ≡ true → unusable (schema_of p) url ≡ None
