use Rattle.fhir_entail.proofs.Alike.{one_or_other}
use Rattle.fhir_entail.proofs.laws.same_is_equal.Goals as goal

pub returns : goal.returns
returns c = one_or_other
