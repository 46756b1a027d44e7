use Rattle.fhir_schema.proofs.KnownNodes.{known}
use Rattle.fhir_schema.proofs.laws.named_nodes.Goals as goal

pub returns : goal.returns
returns c s url id n h = known s url id n h
