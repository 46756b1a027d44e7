use Rattle.std.proofs.Common.{refl, false, Some}
use Rattle.std.specs.Prelude.{codes}
use Rattle.fhir_json.specs.Tree.{string}
use Rattle.fhir_nodes.specs.declared.node.NodeRef.{NodeRef}
use Rattle.fhir_instance.specs.Items.{Item, item, kid, no_kids}
use Rattle.fhir_json.specs.Reading.{unit_at}
use Rattle.fhir_decimal.specs.Reading.{parts}
use Rattle.fhir_decimal.specs.Value.{value_of, value_order}
use Rattle.fhir_decimal.specs.Whole.{is_whole_value}
use Rattle.fhir_fp_syntax.specs.Reading.{expression_in}
use Rattle.fhir_fp_syntax.specs.Lexing.{words_in, words_at, piece_at, token_at, name_at, special_at, number_at, delimited_at, string_at, sign_at, behind_comment, mark_named}
use Rattle.fhir_fp_syntax.specs.Parsing.{expression_at, level_at, more_at, tail_at, primary_at, call_at, calls_at, inner_at, type_at}
use Rattle.fhir_fp_syntax.specs.Words.{function_of, given_of, is_system_type}
use Rattle.fhir_fp_syntax.specs.Strings.{text_in, text_at, escape_at, unicode_at, low_at}
use Rattle.fhir_fp_values.specs.Equality.{alike, pairs}
use Rattle.fhir_fp_values.specs.Comparing.{order_of}
use Rattle.fhir_fp_values.specs.Sets.{joined, shared}
use Rattle.fhir_fp_eval.specs.Meaning.{den, is_true, values_where, at_from, of_types}
use Rattle.fhir_conformance.specs.Conformance.{constant}
use Rattle.fhir_conformance.specs.Recipes.{recipes, titled, untitled}
use Rattle.fhir_conformance.proofs.Refuted.{refuted_in}
use Rattle.fhir_conformance.proofs.laws.constraints_example.Goals as goal

abbrev titled_root : NodeRef
titled_root = record { definition = 2; element = 0 }

abbrev both_root : NodeRef
both_root = record { definition = 3; element = 0 }

abbrev unread_root : NodeRef
unread_root = record { definition = 4; element = 0 }

abbrev context_root : NodeRef
context_root = record { definition = 5; element = 0 }

abbrev titled_item : Item
titled_item = item (codes "Recipe") (Some titled) (kid (codes "title") (item (codes "code") (Some (string (codes "t"))) no_kids) no_kids)

abbrev untitled_item : Item
untitled_item = item (codes "Recipe") (Some untitled) no_kids

pub returns-clause-titled : goal.returns-clause-titled
unfolding expression_in words_in words_at piece_at token_at name_at special_at number_at delimited_at string_at sign_at behind_comment mark_named expression_at level_at more_at tail_at primary_at call_at calls_at inner_at type_at function_of given_of is_system_type text_in text_at escape_at unicode_at low_at unit_at den is_true values_where joined shared at_from of_types alike pairs order_of parts value_of value_order is_whole_value
returns-clause-titled c meaning = record {
  node = titled_root;
  itself = titled_item;
  usable = refl;
  typed = refl;
  holds = refl;
}

pub returns-clause-untitled : goal.returns-clause-untitled
unfolding expression_in words_in words_at piece_at token_at name_at special_at number_at delimited_at string_at sign_at behind_comment mark_named expression_at level_at more_at tail_at primary_at call_at calls_at inner_at type_at function_of given_of is_system_type text_in text_at escape_at unicode_at low_at unit_at den is_true values_where joined shared at_from of_types alike pairs order_of parts value_of value_order is_whole_value
returns-clause-untitled c meaning = refuted_in recipes meaning (codes "urn:titled") untitled untitled_item titled_root refl refl refl

pub returns-clause-both : goal.returns-clause-both
unfolding expression_in words_in words_at piece_at token_at name_at special_at number_at delimited_at string_at sign_at behind_comment mark_named expression_at level_at more_at tail_at primary_at call_at calls_at inner_at type_at function_of given_of is_system_type text_in text_at escape_at unicode_at low_at unit_at den is_true values_where joined shared at_from of_types alike pairs order_of parts value_of value_order is_whole_value
returns-clause-both c meaning = refuted_in recipes meaning (codes "urn:both") titled titled_item both_root refl refl refl

pub returns-clause-unread : goal.returns-clause-unread
unfolding expression_in words_in words_at piece_at token_at name_at special_at number_at delimited_at string_at sign_at behind_comment mark_named expression_at level_at more_at tail_at primary_at call_at calls_at inner_at type_at function_of given_of is_system_type text_in text_at escape_at unicode_at low_at unit_at den is_true values_where joined shared at_from of_types alike pairs order_of parts value_of value_order is_whole_value
returns-clause-unread c = refuted_in recipes (constant false) (codes "urn:unread") titled titled_item unread_root refl refl refl

pub returns-clause-unread_holds : goal.returns-clause-unread_holds
unfolding expression_in words_in words_at piece_at token_at name_at special_at number_at delimited_at string_at sign_at behind_comment mark_named expression_at level_at more_at tail_at primary_at call_at calls_at inner_at type_at function_of given_of is_system_type text_in text_at escape_at unicode_at low_at unit_at den is_true values_where joined shared at_from of_types alike pairs order_of parts value_of value_order is_whole_value
returns-clause-unread_holds c = record {
  node = unread_root;
  itself = titled_item;
  usable = refl;
  typed = refl;
  holds = refl;
}

pub returns-clause-context : goal.returns-clause-context
unfolding expression_in words_in words_at piece_at token_at name_at special_at number_at delimited_at string_at sign_at behind_comment mark_named expression_at level_at more_at tail_at primary_at call_at calls_at inner_at type_at function_of given_of is_system_type text_in text_at escape_at unicode_at low_at unit_at den is_true values_where joined shared at_from of_types alike pairs order_of parts value_of value_order is_whole_value
returns-clause-context c meaning = record {
  node = context_root;
  itself = titled_item;
  usable = refl;
  typed = refl;
  holds = refl;
}
