use Rattle.std.proofs.Common.{refl}
use Rattle.fhir_decimal.specs.Reading.{parts}
use Rattle.fhir_decimal.specs.Value.{value_of, value_order}
use Rattle.fhir_decimal.specs.Whole.{is_whole_value}
use Rattle.fhir_fp_values.specs.Equality.{alike, pairs}
use Rattle.fhir_fp_values.specs.Comparing.{order_of}
use Rattle.fhir_fp_values.specs.Sets.{joined, shared}
use Rattle.fhir_fp_eval.specs.Meaning.{den, values_where, at_from, of_types}
use Rattle.fhir_fp_eval.proofs.laws.truth_tables.Goals as goal

pub returns-clause-and : goal.returns-clause-and
unfolding den values_where joined shared at_from of_types alike pairs order_of parts value_of value_order is_whole_value
returns-clause-and c = refl

pub returns-clause-or : goal.returns-clause-or
unfolding den values_where joined shared at_from of_types alike pairs order_of parts value_of value_order is_whole_value
returns-clause-or c = refl

pub returns-clause-xor : goal.returns-clause-xor
unfolding den values_where joined shared at_from of_types alike pairs order_of parts value_of value_order is_whole_value
returns-clause-xor c = refl

pub returns-clause-implies : goal.returns-clause-implies
unfolding den values_where joined shared at_from of_types alike pairs order_of parts value_of value_order is_whole_value
returns-clause-implies c = refl

pub returns-clause-not_true : goal.returns-clause-not_true
unfolding den values_where joined shared at_from of_types alike pairs order_of parts value_of value_order is_whole_value
returns-clause-not_true c = refl

pub returns-clause-not_false : goal.returns-clause-not_false
unfolding den values_where joined shared at_from of_types alike pairs order_of parts value_of value_order is_whole_value
returns-clause-not_false c = refl

pub returns-clause-not_nothing : goal.returns-clause-not_nothing
unfolding den values_where joined shared at_from of_types alike pairs order_of parts value_of value_order is_whole_value
returns-clause-not_nothing c = refl
