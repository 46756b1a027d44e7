use Rattle.std.proofs.Common.{refl}
use lib.Utf8.{encode}
use Rattle.std.specs.Str.{chars, is_utf8}
use Rattle.std.specs.Str.Lossy.{utf8_valid_len}
use Rattle.fhir_json.specs.Number.{after_number}
use Rattle.fhir_json.specs.Reading.{placed_reading, tree_at, value_at, list_at, parts_at, word_at, number_at, string_at, text_at, member_at, name_at, escape_at, unicode_at, low_at, unit_at}
use Rattle.fhir_package.specs.Packing.{held_within, definitions_in}
use Rattle.worked_examples.proofs.positions.stops_example.Goals as goal

pub returns-clause-first_line : goal.returns-clause-first_line
unfolding placed_reading tree_at value_at list_at parts_at word_at number_at string_at text_at member_at name_at after_number is_utf8 chars encode escape_at unicode_at low_at unit_at utf8_valid_len definitions_in held_within
returns-clause-first_line c = refl

pub returns-clause-line_feed : goal.returns-clause-line_feed
unfolding placed_reading tree_at value_at list_at parts_at word_at number_at string_at text_at member_at name_at after_number is_utf8 chars encode escape_at unicode_at low_at unit_at utf8_valid_len definitions_in held_within
returns-clause-line_feed c = refl

pub returns-clause-pair : goal.returns-clause-pair
unfolding placed_reading tree_at value_at list_at parts_at word_at number_at string_at text_at member_at name_at after_number is_utf8 chars encode escape_at unicode_at low_at unit_at utf8_valid_len definitions_in held_within
returns-clause-pair c = refl

pub returns-clause-mark : goal.returns-clause-mark
unfolding placed_reading tree_at value_at list_at parts_at word_at number_at string_at text_at member_at name_at after_number is_utf8 chars encode escape_at unicode_at low_at unit_at utf8_valid_len definitions_in held_within
returns-clause-mark c = refl

pub returns-clause-second_mark : goal.returns-clause-second_mark
unfolding placed_reading tree_at value_at list_at parts_at word_at number_at string_at text_at member_at name_at after_number is_utf8 chars encode escape_at unicode_at low_at unit_at utf8_valid_len definitions_in held_within
returns-clause-second_mark c = refl

pub returns-clause-wide : goal.returns-clause-wide
unfolding placed_reading tree_at value_at list_at parts_at word_at number_at string_at text_at member_at name_at after_number is_utf8 chars encode escape_at unicode_at low_at unit_at utf8_valid_len definitions_in held_within
returns-clause-wide c = refl

pub returns-clause-nothing : goal.returns-clause-nothing
unfolding placed_reading tree_at value_at list_at parts_at word_at number_at string_at text_at member_at name_at after_number is_utf8 chars encode escape_at unicode_at low_at unit_at utf8_valid_len definitions_in held_within
returns-clause-nothing c = refl

pub returns-clause-number : goal.returns-clause-number
unfolding placed_reading tree_at value_at list_at parts_at word_at number_at string_at text_at member_at name_at after_number is_utf8 chars encode escape_at unicode_at low_at unit_at utf8_valid_len definitions_in held_within
returns-clause-number c = refl

pub returns-clause-name : goal.returns-clause-name
unfolding placed_reading tree_at value_at list_at parts_at word_at number_at string_at text_at member_at name_at after_number is_utf8 chars encode escape_at unicode_at low_at unit_at utf8_valid_len definitions_in held_within
returns-clause-name c = refl

pub returns-clause-new_name : goal.returns-clause-new_name
unfolding placed_reading tree_at value_at list_at parts_at word_at number_at string_at text_at member_at name_at after_number is_utf8 chars encode escape_at unicode_at low_at unit_at utf8_valid_len definitions_in held_within
returns-clause-new_name c = refl

pub returns-clause-colon : goal.returns-clause-colon
unfolding placed_reading tree_at value_at list_at parts_at word_at number_at string_at text_at member_at name_at after_number is_utf8 chars encode escape_at unicode_at low_at unit_at utf8_valid_len definitions_in held_within
returns-clause-colon c = refl

pub returns-clause-comma : goal.returns-clause-comma
unfolding placed_reading tree_at value_at list_at parts_at word_at number_at string_at text_at member_at name_at after_number is_utf8 chars encode escape_at unicode_at low_at unit_at utf8_valid_len definitions_in held_within
returns-clause-comma c = refl

pub returns-clause-end_of_list : goal.returns-clause-end_of_list
unfolding placed_reading tree_at value_at list_at parts_at word_at number_at string_at text_at member_at name_at after_number is_utf8 chars encode escape_at unicode_at low_at unit_at utf8_valid_len definitions_in held_within
returns-clause-end_of_list c = refl

pub returns-clause-end_of_string : goal.returns-clause-end_of_string
unfolding placed_reading tree_at value_at list_at parts_at word_at number_at string_at text_at member_at name_at after_number is_utf8 chars encode escape_at unicode_at low_at unit_at utf8_valid_len definitions_in held_within
returns-clause-end_of_string c = refl

pub returns-clause-character : goal.returns-clause-character
unfolding placed_reading tree_at value_at list_at parts_at word_at number_at string_at text_at member_at name_at after_number is_utf8 chars encode escape_at unicode_at low_at unit_at utf8_valid_len definitions_in held_within
returns-clause-character c = refl

pub returns-clause-escape : goal.returns-clause-escape
unfolding placed_reading tree_at value_at list_at parts_at word_at number_at string_at text_at member_at name_at after_number is_utf8 chars encode escape_at unicode_at low_at unit_at utf8_valid_len definitions_in held_within
returns-clause-escape c = refl

pub returns-clause-digits : goal.returns-clause-digits
unfolding placed_reading tree_at value_at list_at parts_at word_at number_at string_at text_at member_at name_at after_number is_utf8 chars encode escape_at unicode_at low_at unit_at utf8_valid_len definitions_in held_within
returns-clause-digits c = refl

pub returns-clause-lower_half : goal.returns-clause-lower_half
unfolding placed_reading tree_at value_at list_at parts_at word_at number_at string_at text_at member_at name_at after_number is_utf8 chars encode escape_at unicode_at low_at unit_at utf8_valid_len definitions_in held_within
returns-clause-lower_half c = refl

pub returns-clause-upper_half : goal.returns-clause-upper_half
unfolding placed_reading tree_at value_at list_at parts_at word_at number_at string_at text_at member_at name_at after_number is_utf8 chars encode escape_at unicode_at low_at unit_at utf8_valid_len definitions_in held_within
returns-clause-upper_half c = refl

pub returns-clause-levels : goal.returns-clause-levels
unfolding placed_reading tree_at value_at list_at parts_at word_at number_at string_at text_at member_at name_at after_number is_utf8 chars encode escape_at unicode_at low_at unit_at utf8_valid_len definitions_in held_within
returns-clause-levels c = refl

pub returns-clause-deepest : goal.returns-clause-deepest
unfolding placed_reading tree_at value_at list_at parts_at word_at number_at string_at text_at member_at name_at after_number is_utf8 chars encode escape_at unicode_at low_at unit_at utf8_valid_len definitions_in held_within
returns-clause-deepest c = refl

pub returns-clause-behind : goal.returns-clause-behind
unfolding placed_reading tree_at value_at list_at parts_at word_at number_at string_at text_at member_at name_at after_number is_utf8 chars encode escape_at unicode_at low_at unit_at utf8_valid_len definitions_in held_within
returns-clause-behind c = refl

pub returns-clause-utf8 : goal.returns-clause-utf8
unfolding placed_reading tree_at value_at list_at parts_at word_at number_at string_at text_at member_at name_at after_number is_utf8 chars encode escape_at unicode_at low_at unit_at utf8_valid_len definitions_in held_within
returns-clause-utf8 c = refl

pub returns-clause-utf8_first : goal.returns-clause-utf8_first
unfolding placed_reading tree_at value_at list_at parts_at word_at number_at string_at text_at member_at name_at after_number is_utf8 chars encode escape_at unicode_at low_at unit_at utf8_valid_len definitions_in held_within
returns-clause-utf8_first c = refl

pub returns-clause-json : goal.returns-clause-json
unfolding placed_reading tree_at value_at list_at parts_at word_at number_at string_at text_at member_at name_at after_number is_utf8 chars encode escape_at unicode_at low_at unit_at utf8_valid_len definitions_in held_within
returns-clause-json c = refl
