use Rattle.std.proofs.Common.{refl}
use lib.Utf8.{encode}
use Rattle.std.specs.Str.{is_utf8, chars}
use Rattle.fhir_json.specs.Number.{after_number}
use Rattle.fhir_json.specs.Reading.{unit_at, low_at, unicode_at, escape_at, text_at, string_at, number_at, word_at, parts_at, list_at, name_at, member_at, value_at, tree_at, placed_reading, reading}
use Rattle.worked_examples.proofs.sessions.starts_example.Goals as goal

pub returns-clause-read : goal.returns-clause-read
unfolding is_utf8 chars encode after_number unit_at low_at unicode_at escape_at text_at string_at number_at word_at parts_at list_at name_at member_at value_at tree_at placed_reading reading
returns-clause-read c = refl

pub returns-clause-unread : goal.returns-clause-unread
unfolding is_utf8 chars encode after_number unit_at low_at unicode_at escape_at text_at string_at number_at word_at parts_at list_at name_at member_at value_at tree_at placed_reading reading
returns-clause-unread c = refl
