use Rattle.std.proofs.Common.{refl}
use Rattle.fhir_decimal.specs.Reading.{parts}
use Rattle.fhir_decimal.specs.Value.{value_of, value_order}
use Rattle.fhir_decimal.specs.Whole.{is_whole_value}
use Rattle.fhir_fp_values.specs.Equality.{alike, pairs}
use Rattle.fhir_fp_values.specs.Comparing.{order_of}
use Rattle.fhir_fp_values.specs.Sets.{joined, shared}
use Rattle.fhir_fp_eval.specs.Meaning.{den, values_where, at_from, of_types}
use Rattle.fhir_fp_eval.proofs.worked.paths_example.Goals as goal

pub returns-clause-count : goal.returns-clause-count
unfolding den values_where joined shared at_from of_types alike pairs order_of parts value_of value_order is_whole_value
returns-clause-count c = refl

pub returns-clause-joined : goal.returns-clause-joined
unfolding den values_where joined shared at_from of_types alike pairs order_of parts value_of value_order is_whole_value
returns-clause-joined c = refl

pub returns-clause-common : goal.returns-clause-common
unfolding den values_where joined shared at_from of_types alike pairs order_of parts value_of value_order is_whole_value
returns-clause-common c = refl

pub returns-clause-first : goal.returns-clause-first
unfolding den values_where joined shared at_from of_types alike pairs order_of parts value_of value_order is_whole_value
returns-clause-first c = refl

pub returns-clause-beyond : goal.returns-clause-beyond
unfolding den values_where joined shared at_from of_types alike pairs order_of parts value_of value_order is_whole_value
returns-clause-beyond c = refl

pub returns-clause-between : goal.returns-clause-between
unfolding den values_where joined shared at_from of_types alike pairs order_of parts value_of value_order is_whole_value
returns-clause-between c = refl

pub returns-clause-several : goal.returns-clause-several
unfolding den values_where joined shared at_from of_types alike pairs order_of parts value_of value_order is_whole_value
returns-clause-several c = refl

pub returns-clause-second : goal.returns-clause-second
unfolding den values_where joined shared at_from of_types alike pairs order_of parts value_of value_order is_whole_value
returns-clause-second c = refl

pub returns-clause-both : goal.returns-clause-both
unfolding den values_where joined shared at_from of_types alike pairs order_of parts value_of value_order is_whole_value
returns-clause-both c = refl

pub returns-clause-asked : goal.returns-clause-asked
unfolding den values_where joined shared at_from of_types alike pairs order_of parts value_of value_order is_whole_value
returns-clause-asked c = refl

pub returns-clause-implied : goal.returns-clause-implied
unfolding den values_where joined shared at_from of_types alike pairs order_of parts value_of value_order is_whole_value
returns-clause-implied c = refl

pub returns-clause-types : goal.returns-clause-types
unfolding den values_where joined shared at_from of_types alike pairs order_of parts value_of value_order is_whole_value
returns-clause-types c = refl

pub returns-clause-choice : goal.returns-clause-choice
unfolding den values_where joined shared at_from of_types alike pairs order_of parts value_of value_order is_whole_value
returns-clause-choice c = refl

pub returns-clause-spelled : goal.returns-clause-spelled
unfolding den values_where joined shared at_from of_types alike pairs order_of parts value_of value_order is_whole_value
returns-clause-spelled c = refl

pub returns-clause-element : goal.returns-clause-element
unfolding den values_where joined shared at_from of_types alike pairs order_of parts value_of value_order is_whole_value
returns-clause-element c = refl

pub returns-clause-bare : goal.returns-clause-bare
unfolding den values_where joined shared at_from of_types alike pairs order_of parts value_of value_order is_whole_value
returns-clause-bare c = refl

pub returns-clause-value : goal.returns-clause-value
unfolding den values_where joined shared at_from of_types alike pairs order_of parts value_of value_order is_whole_value
returns-clause-value c = refl

pub returns-clause-below : goal.returns-clause-below
unfolding den values_where joined shared at_from of_types alike pairs order_of parts value_of value_order is_whole_value
returns-clause-below c = refl

pub returns-clause-once : goal.returns-clause-once
unfolding den values_where joined shared at_from of_types alike pairs order_of parts value_of value_order is_whole_value
returns-clause-once c = refl

pub returns-clause-repeated : goal.returns-clause-repeated
unfolding den values_where joined shared at_from of_types alike pairs order_of parts value_of value_order is_whole_value
returns-clause-repeated c = refl

pub returns-clause-exist : goal.returns-clause-exist
unfolding den values_where joined shared at_from of_types alike pairs order_of parts value_of value_order is_whole_value
returns-clause-exist c = refl

pub returns-clause-none_exists : goal.returns-clause-none_exists
unfolding den values_where joined shared at_from of_types alike pairs order_of parts value_of value_order is_whole_value
returns-clause-none_exists c = refl

pub returns-clause-filled : goal.returns-clause-filled
unfolding den values_where joined shared at_from of_types alike pairs order_of parts value_of value_order is_whole_value
returns-clause-filled c = refl

pub returns-clause-nothing_is_empty : goal.returns-clause-nothing_is_empty
unfolding den values_where joined shared at_from of_types alike pairs order_of parts value_of value_order is_whole_value
returns-clause-nothing_is_empty c = refl

pub returns-clause-nothing_in : goal.returns-clause-nothing_in
unfolding den values_where joined shared at_from of_types alike pairs order_of parts value_of value_order is_whole_value
returns-clause-nothing_in c = refl

pub returns-clause-contained : goal.returns-clause-contained
unfolding den values_where joined shared at_from of_types alike pairs order_of parts value_of value_order is_whole_value
returns-clause-contained c = refl

pub returns-clause-around_it : goal.returns-clause-around_it
unfolding den values_where joined shared at_from of_types alike pairs order_of parts value_of value_order is_whole_value
returns-clause-around_it c = refl

pub returns-clause-own_type : goal.returns-clause-own_type
unfolding den values_where joined shared at_from of_types alike pairs order_of parts value_of value_order is_whole_value
returns-clause-own_type c = refl

pub returns-clause-others : goal.returns-clause-others
unfolding den values_where joined shared at_from of_types alike pairs order_of parts value_of value_order is_whole_value
returns-clause-others c = refl

pub returns-clause-cast : goal.returns-clause-cast
unfolding den values_where joined shared at_from of_types alike pairs order_of parts value_of value_order is_whole_value
returns-clause-cast c = refl

pub returns-clause-single : goal.returns-clause-single
unfolding den values_where joined shared at_from of_types alike pairs order_of parts value_of value_order is_whole_value
returns-clause-single c = refl

pub returns-clause-in_order : goal.returns-clause-in_order
unfolding den values_where joined shared at_from of_types alike pairs order_of parts value_of value_order is_whole_value
returns-clause-in_order c = refl
