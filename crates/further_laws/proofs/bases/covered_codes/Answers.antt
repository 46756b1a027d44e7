use Rattle.fhir_definition.specs.Definition.{definitions_from}
use Rattle.fhir_nodes.proofs.Placing.{placed}
use Rattle.further_laws.proofs.Chains.{covers_where}
use Rattle.further_laws.proofs.bases.covered_codes.Goals as goal

pub returns : goal.returns
returns c p code other = covers_where (definitions_from 0 p.structure_definitions) (placed p.structure_definitions) code other
