use Rattle.fhir_definition.specs.Definition.{definitions_from}
use Rattle.fhir_nodes.proofs.Placing.{placed}
use Rattle.fhir_schema.specs.Schemas.{schema_of}
use Rattle.fhir_schema.proofs.Settles.{closed}
use Rattle.further_laws.proofs.Typed.{resource_of_type, onward, no_forms}
use Rattle.further_laws.proofs.types.typing_by_types.Goals as goal

pub returns-clause-resources : goal.returns-clause-resources
returns-clause-resources c p code n e =
    resource_of_type (schema_of p) (placed p.structure_definitions) (closed (definitions_from 0 p.structure_definitions) (placed p.structure_definitions)) code n e

pub returns-clause-onward : goal.returns-clause-onward
returns-clause-onward c p n m f known among is =
    onward (schema_of p) (placed p.structure_definitions) (closed (definitions_from 0 p.structure_definitions) (placed p.structure_definitions))
    n m f known among is

pub returns-clause-profiles : goal.returns-clause-profiles
returns-clause-profiles c p n other =
    no_forms (schema_of p) (placed p.structure_definitions) (closed (definitions_from 0 p.structure_definitions) (placed p.structure_definitions)) n other
