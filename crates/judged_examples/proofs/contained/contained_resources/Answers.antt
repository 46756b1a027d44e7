use Rattle.std.proofs.Common.{refl}
use Rattle.fhir_json.specs.Reading.{unit_at}
use Rattle.fhir_decimal.specs.Reading.{parts}
use Rattle.fhir_decimal.specs.Value.{value_of, value_order}
use Rattle.fhir_decimal.specs.Whole.{is_whole_value}
use Rattle.fhir_fp_syntax.specs.Reading.{expression_in}
use Rattle.fhir_fp_syntax.specs.Lexing.{words_in, words_at, piece_at, token_at, name_at, special_at, number_at, delimited_at, string_at, sign_at, behind_comment, mark_named}
use Rattle.fhir_fp_syntax.specs.Parsing.{expression_at, level_at, more_at, tail_at, primary_at, call_at, calls_at, inner_at, type_at}
use Rattle.fhir_fp_syntax.specs.Words.{function_of, given_of, is_system_type}
use Rattle.fhir_fp_syntax.specs.Strings.{text_in, text_at, escape_at, unicode_at, low_at}
use Rattle.fhir_fp_values.specs.Equality.{alike, pairs}
use Rattle.fhir_fp_values.specs.Comparing.{order_of}
use Rattle.fhir_fp_values.specs.Sets.{joined, shared}
use Rattle.fhir_fp_eval.specs.Meaning.{den, is_true, values_where, at_from, of_types}
use Rattle.judged_examples.proofs.contained.contained_resources.Goals as goal

pub returns-clause-note : goal.returns-clause-note
unfolding expression_in words_in words_at piece_at token_at name_at special_at number_at delimited_at string_at sign_at behind_comment mark_named expression_at level_at more_at tail_at primary_at call_at calls_at inner_at type_at function_of given_of is_system_type text_in text_at escape_at unicode_at low_at unit_at den is_true values_where joined shared at_from of_types alike pairs order_of parts value_of value_order is_whole_value
returns-clause-note c meaning = refl

pub returns-clause-box_of_note : goal.returns-clause-box_of_note
unfolding expression_in words_in words_at piece_at token_at name_at special_at number_at delimited_at string_at sign_at behind_comment mark_named expression_at level_at more_at tail_at primary_at call_at calls_at inner_at type_at function_of given_of is_system_type text_in text_at escape_at unicode_at low_at unit_at den is_true values_where joined shared at_from of_types alike pairs order_of parts value_of value_order is_whole_value
returns-clause-box_of_note c meaning = refl

pub returns-clause-text : goal.returns-clause-text
unfolding expression_in words_in words_at piece_at token_at name_at special_at number_at delimited_at string_at sign_at behind_comment mark_named expression_at level_at more_at tail_at primary_at call_at calls_at inner_at type_at function_of given_of is_system_type text_in text_at escape_at unicode_at low_at unit_at den is_true values_where joined shared at_from of_types alike pairs order_of parts value_of value_order is_whole_value
returns-clause-text c meaning = refl

pub returns-clause-box_of_text : goal.returns-clause-box_of_text
unfolding expression_in words_in words_at piece_at token_at name_at special_at number_at delimited_at string_at sign_at behind_comment mark_named expression_at level_at more_at tail_at primary_at call_at calls_at inner_at type_at function_of given_of is_system_type text_in text_at escape_at unicode_at low_at unit_at den is_true values_where joined shared at_from of_types alike pairs order_of parts value_of value_order is_whole_value
returns-clause-box_of_text c meaning = refl
