use Rattle.std.proofs.Common.{refl}
use Rattle.fhir_decimal.specs.Reading.{parts}
use Rattle.fhir_decimal.specs.Value.{value_of, value_order}
use Rattle.judged_examples.proofs.ranges.unsigned_bounds.Goals as goal

pub returns-clause-above : goal.returns-clause-above
unfolding parts value_of value_order
returns-clause-above c m = refl

pub returns-clause-at_most : goal.returns-clause-at_most
unfolding parts value_of value_order
returns-clause-at_most c m = refl

pub returns-clause-below : goal.returns-clause-below
unfolding parts value_of value_order
returns-clause-below c m = refl

pub returns-clause-at_least : goal.returns-clause-at_least
unfolding parts value_of value_order
returns-clause-at_least c m = refl

pub returns-clause-above_own : goal.returns-clause-above_own
unfolding parts value_of value_order
returns-clause-above_own c m = refl

pub returns-clause-at_most_own : goal.returns-clause-at_most_own
unfolding parts value_of value_order
returns-clause-at_most_own c m = refl

pub returns-clause-below_own : goal.returns-clause-below_own
unfolding parts value_of value_order
returns-clause-below_own c m = refl

pub returns-clause-at_least_own : goal.returns-clause-at_least_own
unfolding parts value_of value_order
returns-clause-at_least_own c m = refl
