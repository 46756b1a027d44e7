use Rattle.fhir_definition.specs.Definition.{definitions_from}
use Rattle.fhir_nodes.proofs.Placing.{placed}
use Rattle.fhir_schema.specs.Schemas.{schema_of}
use Rattle.fhir_schema.proofs.Settles.{closed}
use Rattle.further_laws.proofs.Sliced.{each_criterion, some_criterion}
use Rattle.further_laws.proofs.slices.criteria_of_slices.Goals as goal

pub returns-clause-each : goal.returns-clause-each
returns-clause-each c p n d sliced known at is =
    each_criterion (schema_of p) (placed p.structure_definitions) (closed (definitions_from 0 p.structure_definitions) (placed p.structure_definitions))
    n d sliced known at is

pub returns-clause-some : goal.returns-clause-some
returns-clause-some c p n d sliced known at is =
    some_criterion (schema_of p) (placed p.structure_definitions) (closed (definitions_from 0 p.structure_definitions) (placed p.structure_definitions))
    n d sliced known at is
