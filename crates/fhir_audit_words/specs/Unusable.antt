-- Why a definition can't be used.
use Rattle.std.specs.Prelude.{[], get_or, Option}
use Rattle.std.specs.Option.{option_map, option_and_then}
use Rattle.fhir_json.specs.Tree.{Text}
use Rattle.fhir_findings.specs.Finding.{UnusableValue}
use Rattle.fhir_package.specs.declared.kind.Kind.TheVariants.{StructureDefinition}
use Rattle.fhir_package.specs.Definitions.{place_in}
use Rattle.fhir_package.specs.Surveying.{Surveyed}
use Rattle.fhir_schema.specs.Schemas.{SchemaValue, unusable}

-- the file and the url of the definition at a url, and why it can't be used, where that is so
abbrev pub unusable_at : SchemaValue → Surveyed → Text → Option UnusableValue
unusable_at s survey url =
    option_and_then
    (λ reason.
    option_map (λ place. (get_or survey.sources.structure_definitions place [], url, reason)) (place_in StructureDefinition url survey.definitions))
    (unusable s url)
