use Rattle.fhir_definition.specs.Definition.{definitions_from}
use Rattle.fhir_nodes.proofs.Placing.{placed}
use Rattle.fhir_schema.proofs.Settles.{closed, apply, least}
use Rattle.fhir_schema.proofs.laws.least_closed.Goals as goal

pub returns : goal.returns
returns c = record {
  placed = λ p place d h. placed p.structure_definitions place d h;
  closed = λ p. closed (definitions_from 0 p.structure_definitions) (placed p.structure_definitions);
  apply = λ p. apply (definitions_from 0 p.structure_definitions) (placed p.structure_definitions);
  least = λ p other shut. least (definitions_from 0 p.structure_definitions) (placed p.structure_definitions) other shut;
}
