use Rattle.std.proofs.Common.{refl}
use Rattle.fhir_decimal.specs.Reading.{parts}
use Rattle.fhir_decimal.specs.Value.{value_of, value_order}
use Rattle.fhirpath_laws.proofs.decimals.order_of_texts.Goals as goal

pub returns-clause-negative : goal.returns-clause-negative
unfolding parts value_of value_order
returns-clause-negative c = refl

pub returns-clause-of_negatives : goal.returns-clause-of_negatives
unfolding parts value_of value_order
returns-clause-of_negatives c = refl

pub returns-clause-zeros : goal.returns-clause-zeros
unfolding parts value_of value_order
returns-clause-zeros c = refl

pub returns-clause-raised : goal.returns-clause-raised
unfolding parts value_of value_order
returns-clause-raised c = refl

pub returns-clause-lowered : goal.returns-clause-lowered
unfolding parts value_of value_order
returns-clause-lowered c = refl

pub returns-clause-signed : goal.returns-clause-signed
unfolding parts value_of value_order
returns-clause-signed c = refl
