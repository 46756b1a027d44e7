use Rattle.fhir_entail.proofs.Faultless.{has_result, has_truth}
use Rattle.fhir_entail.proofs.laws.total_has_result.Goals as goal

pub returns-clause-result : goal.returns-clause-result
returns-clause-result c = has_result

pub returns-clause-truth : goal.returns-clause-truth
returns-clause-truth c = has_truth
