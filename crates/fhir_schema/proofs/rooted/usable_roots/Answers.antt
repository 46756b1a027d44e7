use Rattle.fhir_codes.specs.Expanding.{expansions_of}
use Rattle.fhir_definition.specs.Definition.{definitions_from}
use Rattle.fhir_nodes.proofs.Placing.{placed}
use Rattle.fhir_schema.proofs.Settles.{closed}
use Rattle.fhir_schema.proofs.UsableRoots.{usable_root}
use Rattle.fhir_schema.proofs.rooted.usable_roots.Goals as goal

pub returns : goal.returns
returns c p url some none =
    let ds = definitions_from 0 p.structure_definitions in
    usable_root ds (expansions_of p) (placed p.structure_definitions) (closed ds (placed p.structure_definitions)) url some none
