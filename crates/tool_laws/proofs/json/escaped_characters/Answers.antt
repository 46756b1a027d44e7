use Rattle.std.proofs.Common.{refl}
use lib.Utf8.{encode}
use Rattle.std.specs.Str.{chars, is_utf8}
use Rattle.fhir_json.specs.Number.{after_number}
use Rattle.fhir_json.specs.Reading.{placed_reading, tree_at, value_at, list_at, parts_at, word_at, number_at, string_at, text_at, escape_at, unicode_at, low_at, unit_at, member_at, name_at, reading}
use Rattle.tool_laws.proofs.json.escaped_characters.Goals as goal

pub returns-clause-letters : goal.returns-clause-letters
unfolding placed_reading tree_at value_at list_at parts_at word_at number_at string_at text_at escape_at unicode_at low_at unit_at member_at name_at after_number is_utf8 chars encode reading
returns-clause-letters c = refl

pub returns-clause-digits : goal.returns-clause-digits
unfolding placed_reading tree_at value_at list_at parts_at word_at number_at string_at text_at escape_at unicode_at low_at unit_at member_at name_at after_number is_utf8 chars encode reading
returns-clause-digits c = refl

pub returns-clause-pair : goal.returns-clause-pair
unfolding placed_reading tree_at value_at list_at parts_at word_at number_at string_at text_at escape_at unicode_at low_at unit_at member_at name_at after_number is_utf8 chars encode reading
returns-clause-pair c = refl
