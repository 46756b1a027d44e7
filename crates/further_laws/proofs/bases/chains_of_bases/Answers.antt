use Rattle.fhir_definition.specs.Definition.{definitions_from}
use Rattle.fhir_nodes.proofs.Placing.{placed}
use Rattle.further_laws.proofs.Chains.{chain_ends_where}
use Rattle.further_laws.proofs.bases.chains_of_bases.Goals as goal

pub returns : goal.returns
returns c p d = chain_ends_where (definitions_from 0 p.structure_definitions) (placed p.structure_definitions) d
