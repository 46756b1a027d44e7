use Rattle.std.proofs.Common.{refl}
use Rattle.fhir_decimal.specs.Value.{value_of, value_order}
use Rattle.fhir_fp_values.specs.Comparing.{order_of}
use Rattle.fhir_fp_eval.specs.Meaning.{den}
use Rattle.fhirpath_laws.proofs.comparisons.tables_of_order.Goals as goal

pub returns-clause-less : goal.returns-clause-less
unfolding den order_of value_of value_order
returns-clause-less c = refl

pub returns-clause-at_most : goal.returns-clause-at_most
unfolding den order_of value_of value_order
returns-clause-at_most c = refl

pub returns-clause-greater : goal.returns-clause-greater
unfolding den order_of value_of value_order
returns-clause-greater c = refl

pub returns-clause-at_least : goal.returns-clause-at_least
unfolding den order_of value_of value_order
returns-clause-at_least c = refl

pub returns-clause-texts : goal.returns-clause-texts
unfolding den order_of value_of value_order
returns-clause-texts c = refl
