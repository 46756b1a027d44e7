use Rattle.std.proofs.Common.{refl}
use Rattle.fhir_decimal.specs.Reading.{parts}
use Rattle.fhir_decimal.specs.Value.{value_of, value_order}
use Rattle.fhir_decimal.specs.Whole.{is_whole_value}
use Rattle.fhir_fp_values.specs.Equality.{alike, pairs}
use Rattle.fhir_fp_values.specs.Comparing.{order_of}
use Rattle.fhir_fp_values.specs.Sets.{joined, shared}
use Rattle.fhir_fp_eval.specs.Meaning.{den, values_where, at_from, of_types}
use Rattle.fhir_fp_eval.proofs.worked.order_example.Goals as goal

pub returns-clause-strings : goal.returns-clause-strings
unfolding den values_where joined shared at_from of_types alike pairs order_of parts value_of value_order is_whole_value
returns-clause-strings c = refl

pub returns-clause-prefixes : goal.returns-clause-prefixes
unfolding den values_where joined shared at_from of_types alike pairs order_of parts value_of value_order is_whole_value
returns-clause-prefixes c = refl

pub returns-clause-itself : goal.returns-clause-itself
unfolding den values_where joined shared at_from of_types alike pairs order_of parts value_of value_order is_whole_value
returns-clause-itself c = refl

pub returns-clause-at_most : goal.returns-clause-at_most
unfolding den values_where joined shared at_from of_types alike pairs order_of parts value_of value_order is_whole_value
returns-clause-at_most c = refl

pub returns-clause-at_least : goal.returns-clause-at_least
unfolding den values_where joined shared at_from of_types alike pairs order_of parts value_of value_order is_whole_value
returns-clause-at_least c = refl

pub returns-clause-not_at_least : goal.returns-clause-not_at_least
unfolding den values_where joined shared at_from of_types alike pairs order_of parts value_of value_order is_whole_value
returns-clause-not_at_least c = refl

pub returns-clause-greater : goal.returns-clause-greater
unfolding den values_where joined shared at_from of_types alike pairs order_of parts value_of value_order is_whole_value
returns-clause-greater c = refl

pub returns-clause-not_greater : goal.returns-clause-not_greater
unfolding den values_where joined shared at_from of_types alike pairs order_of parts value_of value_order is_whole_value
returns-clause-not_greater c = refl

pub returns-clause-dates : goal.returns-clause-dates
unfolding den values_where joined shared at_from of_types alike pairs order_of parts value_of value_order is_whole_value
returns-clause-dates c = refl

pub returns-clause-undecided : goal.returns-clause-undecided
unfolding den values_where joined shared at_from of_types alike pairs order_of parts value_of value_order is_whole_value
returns-clause-undecided c = refl

pub returns-clause-times : goal.returns-clause-times
unfolding den values_where joined shared at_from of_types alike pairs order_of parts value_of value_order is_whole_value
returns-clause-times c = refl

pub returns-clause-kinds : goal.returns-clause-kinds
unfolding den values_where joined shared at_from of_types alike pairs order_of parts value_of value_order is_whole_value
returns-clause-kinds c = refl

pub returns-clause-booleans : goal.returns-clause-booleans
unfolding den values_where joined shared at_from of_types alike pairs order_of parts value_of value_order is_whole_value
returns-clause-booleans c = refl

pub returns-clause-unit_codes : goal.returns-clause-unit_codes
unfolding den values_where joined shared at_from of_types alike pairs order_of parts value_of value_order is_whole_value
returns-clause-unit_codes c = refl

pub returns-clause-items : goal.returns-clause-items
unfolding den values_where joined shared at_from of_types alike pairs order_of parts value_of value_order is_whole_value
returns-clause-items c = refl

pub returns-clause-amounts : goal.returns-clause-amounts
unfolding den values_where joined shared at_from of_types alike pairs order_of parts value_of value_order is_whole_value
returns-clause-amounts c = refl

pub returns-clause-units : goal.returns-clause-units
unfolding den values_where joined shared at_from of_types alike pairs order_of parts value_of value_order is_whole_value
returns-clause-units c = refl
