use Rattle.fhir_entail.proofs.Truthful.{entailed_true}
use Rattle.fhir_entail.proofs.laws.entailed_is_true.Goals as goal

pub returns : goal.returns
returns c = entailed_true
