use Rattle.fhir_package.specs.declared.kind.Kind.TheVariants.{StructureDefinition}
use Rattle.fhir_codes.specs.Expanding.{expansions_of}
use Rattle.fhir_schema.proofs.Utf8Names.{urls_utf8, trees_sound, url_utf8, id_utf8, root_utf8}
use Rattle.fhir_schema.proofs.naming.names_are_utf8.Goals as goal

pub returns-clause-url : goal.returns-clause-url
returns-clause-url c p place sound =
    let es = p.structure_definitions in
    url_utf8 es (expansions_of p) (urls_utf8 StructureDefinition es (sound StructureDefinition)) (trees_sound StructureDefinition es (sound StructureDefinition)) place

pub returns-clause-id : goal.returns-clause-id
returns-clause-id c p n sound =
    let es = p.structure_definitions in
    id_utf8 es (expansions_of p) (urls_utf8 StructureDefinition es (sound StructureDefinition)) (trees_sound StructureDefinition es (sound StructureDefinition)) n

pub returns-clause-root : goal.returns-clause-root
returns-clause-root c p url sound some =
    let es = p.structure_definitions in
    root_utf8 es (expansions_of p) (urls_utf8 StructureDefinition es (sound StructureDefinition)) (trees_sound StructureDefinition es (sound StructureDefinition)) url some
