use Rattle.fhir_prims.proofs.Partial.{moments_partial}
use Rattle.fhir_prims.proofs.laws.order_of_moments.Goals as goal

pub returns : goal.returns
returns c = moments_partial c.order_of_values.ensures.total
