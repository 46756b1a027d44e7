use Rattle.std.proofs.Common.{refl}
use lib.Utf8.{encode}
use Rattle.fhir_json.specs.Reading.{unit_at}
use Rattle.fhir_fp_syntax.specs.Reading.{expression_in}
use Rattle.fhir_fp_syntax.specs.Lexing.{words_in, words_at, piece_at, token_at, name_at, special_at, number_at, delimited_at, string_at, sign_at, behind_comment, mark_named}
use Rattle.fhir_fp_syntax.specs.Parsing.{expression_at, level_at, more_at, tail_at, primary_at, call_at, calls_at, inner_at, type_at}
use Rattle.fhir_fp_syntax.specs.Words.{function_of, given_of, is_system_type}
use Rattle.fhir_fp_syntax.specs.Strings.{text_in, text_at, escape_at, unicode_at, low_at}
use Rattle.fhir_fp_syntax.proofs.worked.examples.Goals as goal

pub returns-clause-ladder : goal.returns-clause-ladder
unfolding expression_in words_in words_at piece_at token_at name_at special_at number_at delimited_at string_at sign_at behind_comment mark_named expression_at level_at more_at tail_at primary_at call_at calls_at inner_at type_at function_of given_of is_system_type text_in text_at escape_at unicode_at low_at unit_at
returns-clause-ladder c = refl

pub returns-clause-left : goal.returns-clause-left
unfolding expression_in words_in words_at piece_at token_at name_at special_at number_at delimited_at string_at sign_at behind_comment mark_named expression_at level_at more_at tail_at primary_at call_at calls_at inner_at type_at function_of given_of is_system_type text_in text_at escape_at unicode_at low_at unit_at
returns-clause-left c = refl

pub returns-clause-is_before_bar : goal.returns-clause-is_before_bar
unfolding expression_in words_in words_at piece_at token_at name_at special_at number_at delimited_at string_at sign_at behind_comment mark_named expression_at level_at more_at tail_at primary_at call_at calls_at inner_at type_at function_of given_of is_system_type text_in text_at escape_at unicode_at low_at unit_at
returns-clause-is_before_bar c = refl

pub returns-clause-fhir_type : goal.returns-clause-fhir_type
unfolding expression_in words_in words_at piece_at token_at name_at special_at number_at delimited_at string_at sign_at behind_comment mark_named expression_at level_at more_at tail_at primary_at call_at calls_at inner_at type_at function_of given_of is_system_type text_in text_at escape_at unicode_at low_at unit_at
returns-clause-fhir_type c = refl

pub returns-clause-system_type : goal.returns-clause-system_type
unfolding expression_in words_in words_at piece_at token_at name_at special_at number_at delimited_at string_at sign_at behind_comment mark_named expression_at level_at more_at tail_at primary_at call_at calls_at inner_at type_at function_of given_of is_system_type text_in text_at escape_at unicode_at low_at unit_at
returns-clause-system_type c = refl

pub returns-clause-escape : goal.returns-clause-escape
unfolding expression_in words_in words_at piece_at token_at name_at special_at number_at delimited_at string_at sign_at behind_comment mark_named expression_at level_at more_at tail_at primary_at call_at calls_at inner_at type_at function_of given_of is_system_type text_in text_at escape_at unicode_at low_at unit_at encode
returns-clause-escape c = refl

pub returns-clause-pair : goal.returns-clause-pair
unfolding expression_in words_in words_at piece_at token_at name_at special_at number_at delimited_at string_at sign_at behind_comment mark_named expression_at level_at more_at tail_at primary_at call_at calls_at inner_at type_at function_of given_of is_system_type text_in text_at escape_at unicode_at low_at unit_at encode
returns-clause-pair c = refl

pub returns-clause-lone_surrogate : goal.returns-clause-lone_surrogate
unfolding expression_in words_in words_at piece_at token_at name_at special_at number_at delimited_at string_at sign_at behind_comment mark_named expression_at level_at more_at tail_at primary_at call_at calls_at inner_at type_at function_of given_of is_system_type text_in text_at escape_at unicode_at low_at unit_at
returns-clause-lone_surrogate c = refl

pub returns-clause-functions : goal.returns-clause-functions
unfolding expression_in words_in words_at piece_at token_at name_at special_at number_at delimited_at string_at sign_at behind_comment mark_named expression_at level_at more_at tail_at primary_at call_at calls_at inner_at type_at function_of given_of is_system_type text_in text_at escape_at unicode_at low_at unit_at
returns-clause-functions c = refl

pub returns-clause-at_the_start : goal.returns-clause-at_the_start
unfolding expression_in words_in words_at piece_at token_at name_at special_at number_at delimited_at string_at sign_at behind_comment mark_named expression_at level_at more_at tail_at primary_at call_at calls_at inner_at type_at function_of given_of is_system_type text_in text_at escape_at unicode_at low_at unit_at
returns-clause-at_the_start c = refl

pub returns-clause-index : goal.returns-clause-index
unfolding expression_in words_in words_at piece_at token_at name_at special_at number_at delimited_at string_at sign_at behind_comment mark_named expression_at level_at more_at tail_at primary_at call_at calls_at inner_at type_at function_of given_of is_system_type text_in text_at escape_at unicode_at low_at unit_at
returns-clause-index c = refl

pub returns-clause-parentheses : goal.returns-clause-parentheses
unfolding expression_in words_in words_at piece_at token_at name_at special_at number_at delimited_at string_at sign_at behind_comment mark_named expression_at level_at more_at tail_at primary_at call_at calls_at inner_at type_at function_of given_of is_system_type text_in text_at escape_at unicode_at low_at unit_at
returns-clause-parentheses c = refl

pub returns-clause-braces : goal.returns-clause-braces
unfolding expression_in words_in words_at piece_at token_at name_at special_at number_at delimited_at string_at sign_at behind_comment mark_named expression_at level_at more_at tail_at primary_at call_at calls_at inner_at type_at function_of given_of is_system_type text_in text_at escape_at unicode_at low_at unit_at
returns-clause-braces c = refl

pub returns-clause-apart : goal.returns-clause-apart
unfolding expression_in words_in words_at piece_at token_at name_at special_at number_at delimited_at string_at sign_at behind_comment mark_named expression_at level_at more_at tail_at primary_at call_at calls_at inner_at type_at function_of given_of is_system_type text_in text_at escape_at unicode_at low_at unit_at
returns-clause-apart c = refl

pub returns-clause-comments : goal.returns-clause-comments
unfolding expression_in words_in words_at piece_at token_at name_at special_at number_at delimited_at string_at sign_at behind_comment mark_named expression_at level_at more_at tail_at primary_at call_at calls_at inner_at type_at function_of given_of is_system_type text_in text_at escape_at unicode_at low_at unit_at
returns-clause-comments c = refl

pub returns-clause-no_end : goal.returns-clause-no_end
unfolding expression_in words_in words_at piece_at token_at name_at special_at number_at delimited_at string_at sign_at behind_comment mark_named expression_at level_at more_at tail_at primary_at call_at calls_at inner_at type_at function_of given_of is_system_type text_in text_at escape_at unicode_at low_at unit_at
returns-clause-no_end c = refl

pub returns-clause-backquotes : goal.returns-clause-backquotes
unfolding expression_in words_in words_at piece_at token_at name_at special_at number_at delimited_at string_at sign_at behind_comment mark_named expression_at level_at more_at tail_at primary_at call_at calls_at inner_at type_at function_of given_of is_system_type text_in text_at escape_at unicode_at low_at unit_at
returns-clause-backquotes c = refl

pub returns-clause-keyword : goal.returns-clause-keyword
unfolding expression_in words_in words_at piece_at token_at name_at special_at number_at delimited_at string_at sign_at behind_comment mark_named expression_at level_at more_at tail_at primary_at call_at calls_at inner_at type_at function_of given_of is_system_type text_in text_at escape_at unicode_at low_at unit_at
returns-clause-keyword c = refl

pub returns-clause-number : goal.returns-clause-number
unfolding expression_in words_in words_at piece_at token_at name_at special_at number_at delimited_at string_at sign_at behind_comment mark_named expression_at level_at more_at tail_at primary_at call_at calls_at inner_at type_at function_of given_of is_system_type text_in text_at escape_at unicode_at low_at unit_at
returns-clause-number c = refl

pub returns-clause-is_no_function : goal.returns-clause-is_no_function
unfolding expression_in words_in words_at piece_at token_at name_at special_at number_at delimited_at string_at sign_at behind_comment mark_named expression_at level_at more_at tail_at primary_at call_at calls_at inner_at type_at function_of given_of is_system_type text_in text_at escape_at unicode_at low_at unit_at
returns-clause-is_no_function c = refl
