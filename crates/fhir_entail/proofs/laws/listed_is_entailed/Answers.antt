use Rattle.fhir_entail.proofs.Listed.{listed_entailed}
use Rattle.fhir_entail.proofs.laws.listed_is_entailed.Goals as goal

pub returns : goal.returns
returns c = listed_entailed
