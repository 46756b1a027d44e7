use Rattle.fhir_decimal.proofs.Same.{fraction_longer, zeros_same}
use Rattle.fhir_decimal.proofs.laws.texts_of_one_value.Goals as goal

pub returns-clause-fraction : goal.returns-clause-fraction
returns-clause-fraction c = fraction_longer

pub returns-clause-zeros : goal.returns-clause-zeros
returns-clause-zeros c = zeros_same
