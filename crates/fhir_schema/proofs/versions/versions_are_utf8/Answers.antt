use Rattle.fhir_package.specs.declared.kind.Kind.TheVariants.{StructureDefinition}
use Rattle.fhir_codes.specs.Expanding.{expansions_of}
use Rattle.fhir_schema.proofs.Utf8Names.{trees_sound}
use Rattle.fhir_schema.proofs.Utf8Versions.{version_utf8}
use Rattle.fhir_schema.proofs.versions.versions_are_utf8.Goals as goal

pub returns : goal.returns
returns c p url text sound is =
    let es = p.structure_definitions in
    version_utf8 es (expansions_of p) (trees_sound StructureDefinition es (sound StructureDefinition)) url text is
