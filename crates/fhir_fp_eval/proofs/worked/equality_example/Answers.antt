use Rattle.std.proofs.Common.{refl}
use Rattle.fhir_decimal.specs.Reading.{parts}
use Rattle.fhir_decimal.specs.Value.{value_of, value_order}
use Rattle.fhir_decimal.specs.Whole.{is_whole_value}
use Rattle.fhir_fp_values.specs.Equality.{alike, pairs}
use Rattle.fhir_fp_values.specs.Comparing.{order_of}
use Rattle.fhir_fp_values.specs.Sets.{joined, shared}
use Rattle.fhir_fp_eval.specs.Meaning.{den, values_where, at_from, of_types}
use Rattle.fhir_fp_eval.proofs.worked.equality_example.Goals as goal

pub returns-clause-decimals : goal.returns-clause-decimals
unfolding den values_where joined shared at_from of_types alike pairs order_of parts value_of value_order is_whole_value
returns-clause-decimals c = refl

pub returns-clause-kinds : goal.returns-clause-kinds
unfolding den values_where joined shared at_from of_types alike pairs order_of parts value_of value_order is_whole_value
returns-clause-kinds c = refl

pub returns-clause-moments : goal.returns-clause-moments
unfolding den values_where joined shared at_from of_types alike pairs order_of parts value_of value_order is_whole_value
returns-clause-moments c = refl

pub returns-clause-days : goal.returns-clause-days
unfolding den values_where joined shared at_from of_types alike pairs order_of parts value_of value_order is_whole_value
returns-clause-days c = refl

pub returns-clause-times : goal.returns-clause-times
unfolding den values_where joined shared at_from of_types alike pairs order_of parts value_of value_order is_whole_value
returns-clause-times c = refl

pub returns-clause-nothing : goal.returns-clause-nothing
unfolding den values_where joined shared at_from of_types alike pairs order_of parts value_of value_order is_whole_value
returns-clause-nothing c = refl

pub returns-clause-counts : goal.returns-clause-counts
unfolding den values_where joined shared at_from of_types alike pairs order_of parts value_of value_order is_whole_value
returns-clause-counts c = refl

pub returns-clause-parts : goal.returns-clause-parts
unfolding den values_where joined shared at_from of_types alike pairs order_of parts value_of value_order is_whole_value
returns-clause-parts c = refl

pub returns-clause-booleans : goal.returns-clause-booleans
unfolding den values_where joined shared at_from of_types alike pairs order_of parts value_of value_order is_whole_value
returns-clause-booleans c = refl

pub returns-clause-codes_and_strings : goal.returns-clause-codes_and_strings
unfolding den values_where joined shared at_from of_types alike pairs order_of parts value_of value_order is_whole_value
returns-clause-codes_and_strings c = refl

pub returns-clause-instants : goal.returns-clause-instants
unfolding den values_where joined shared at_from of_types alike pairs order_of parts value_of value_order is_whole_value
returns-clause-instants c = refl

pub returns-clause-valueless : goal.returns-clause-valueless
unfolding den values_where joined shared at_from of_types alike pairs order_of parts value_of value_order is_whole_value
returns-clause-valueless c = refl

pub returns-clause-types : goal.returns-clause-types
unfolding den values_where joined shared at_from of_types alike pairs order_of parts value_of value_order is_whole_value
returns-clause-types c = refl

pub returns-clause-names : goal.returns-clause-names
unfolding den values_where joined shared at_from of_types alike pairs order_of parts value_of value_order is_whole_value
returns-clause-names c = refl

pub returns-clause-undecided : goal.returns-clause-undecided
unfolding den values_where joined shared at_from of_types alike pairs order_of parts value_of value_order is_whole_value
returns-clause-undecided c = refl

pub returns-clause-listed : goal.returns-clause-listed
unfolding den values_where joined shared at_from of_types alike pairs order_of parts value_of value_order is_whole_value
returns-clause-listed c = refl

pub returns-clause-doubled : goal.returns-clause-doubled
unfolding den values_where joined shared at_from of_types alike pairs order_of parts value_of value_order is_whole_value
returns-clause-doubled c = refl

pub returns-clause-in_turn : goal.returns-clause-in_turn
unfolding den values_where joined shared at_from of_types alike pairs order_of parts value_of value_order is_whole_value
returns-clause-in_turn c = refl

pub returns-clause-one_differs : goal.returns-clause-one_differs
unfolding den values_where joined shared at_from of_types alike pairs order_of parts value_of value_order is_whole_value
returns-clause-one_differs c = refl
