use Rattle.std.proofs.Common.{refl}
use lib.Utf8.{encode}
use Rattle.std.specs.Str.{chars, is_utf8}
use Rattle.fhir_json.specs.Number.{after_number}
use Rattle.fhir_json.specs.Reading.{placed_reading, tree_at, value_at, list_at, parts_at, word_at, number_at, string_at, text_at, member_at, name_at, reading}
use Rattle.fhir_package.specs.Packing.{held_within, definitions_in}
use Rattle.worked_examples.proofs.folders.surveys_example.Goals as goal

pub returns-clause-all : goal.returns-clause-all
unfolding placed_reading tree_at value_at list_at parts_at word_at number_at string_at text_at member_at name_at after_number is_utf8 chars encode definitions_in held_within reading
returns-clause-all c = refl

pub returns-clause-right : goal.returns-clause-right
unfolding placed_reading tree_at value_at list_at parts_at word_at number_at string_at text_at member_at name_at after_number is_utf8 chars encode definitions_in held_within reading
returns-clause-right c = refl

pub returns-clause-packed : goal.returns-clause-packed
unfolding placed_reading tree_at value_at list_at parts_at word_at number_at string_at text_at member_at name_at after_number is_utf8 chars encode definitions_in held_within reading
returns-clause-packed c = refl

pub returns-clause-clashing : goal.returns-clause-clashing
unfolding placed_reading tree_at value_at list_at parts_at word_at number_at string_at text_at member_at name_at after_number is_utf8 chars encode definitions_in held_within reading
returns-clause-clashing c = refl

pub returns-clause-device : goal.returns-clause-device
unfolding placed_reading tree_at value_at list_at parts_at word_at number_at string_at text_at member_at name_at after_number is_utf8 chars encode definitions_in held_within reading
returns-clause-device c = refl

pub returns-clause-refused : goal.returns-clause-refused
unfolding placed_reading tree_at value_at list_at parts_at word_at number_at string_at text_at member_at name_at after_number is_utf8 chars encode definitions_in held_within reading
returns-clause-refused c = refl
