use Rattle.fhir_decimal.proofs.Order.{same_value_equivalence}
use Rattle.fhir_decimal.proofs.laws.equality_of_values.Goals as goal

pub returns : goal.returns
returns c = same_value_equivalence
