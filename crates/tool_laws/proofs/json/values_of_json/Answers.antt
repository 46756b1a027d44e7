use Rattle.std.proofs.Common.{refl}
use lib.Utf8.{encode}
use Rattle.std.specs.Str.{chars, is_utf8}
use Rattle.fhir_json.specs.Number.{after_number}
use Rattle.fhir_json.specs.Reading.{placed_reading, tree_at, value_at, list_at, parts_at, word_at, number_at, string_at, text_at, escape_at, unicode_at, low_at, unit_at, member_at, name_at, reading}
use Rattle.tool_laws.proofs.json.values_of_json.Goals as goal

pub returns : goal.returns
unfolding placed_reading tree_at value_at list_at parts_at word_at number_at string_at text_at escape_at unicode_at low_at unit_at member_at name_at after_number is_utf8 chars encode reading
returns c = refl
