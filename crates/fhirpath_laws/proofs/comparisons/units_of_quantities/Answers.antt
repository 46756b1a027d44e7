use Rattle.std.proofs.Common.{refl}
use Rattle.fhir_decimal.specs.Reading.{parts}
use Rattle.fhir_decimal.specs.Value.{value_of, value_order}
use Rattle.fhir_fp_values.specs.Equality.{alike}
use Rattle.fhir_fp_values.specs.Comparing.{order_of}
use Rattle.fhir_fp_eval.specs.Meaning.{den}
use Rattle.fhirpath_laws.proofs.comparisons.units_of_quantities.Goals as goal

pub returns-clause-same : goal.returns-clause-same
unfolding den order_of alike parts value_of value_order
returns-clause-same c = refl

pub returns-clause-systems : goal.returns-clause-systems
unfolding den order_of alike parts value_of value_order
returns-clause-systems c = refl

pub returns-clause-unit : goal.returns-clause-unit
unfolding den order_of alike parts value_of value_order
returns-clause-unit c = refl

pub returns-clause-code : goal.returns-clause-code
unfolding den order_of alike parts value_of value_order
returns-clause-code c = refl

pub returns-clause-system : goal.returns-clause-system
unfolding den order_of alike parts value_of value_order
returns-clause-system c = refl
