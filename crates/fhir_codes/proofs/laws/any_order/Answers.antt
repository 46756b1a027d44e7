use Rattle.fhir_codes.proofs.Alike.{same_concepts}
use Rattle.fhir_codes.proofs.laws.any_order.Goals as goal

pub returns : goal.returns
returns c p q names systems canonical = same_concepts p q systems names canonical
