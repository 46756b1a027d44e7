use Rattle.std.proofs.Common.{refl}
use lib.Utf8.{encode}
use Rattle.std.specs.Str.{chars, is_utf8}
use Rattle.fhir_json.specs.Number.{after_number}
use Rattle.fhir_json.specs.Reading.{placed_reading, tree_at, value_at, list_at, parts_at, word_at, number_at, string_at, text_at, member_at, name_at, reading}
use Rattle.fhir_package.specs.Packing.{held_within, definitions_in}
use Rattle.worked_examples.proofs.folders.clashes_example.Goals as goal

pub returns-clause-order : goal.returns-clause-order
unfolding placed_reading tree_at value_at list_at parts_at word_at number_at string_at text_at member_at name_at after_number is_utf8 chars encode definitions_in held_within reading
returns-clause-order c = refl

pub returns-clause-kept : goal.returns-clause-kept
unfolding placed_reading tree_at value_at list_at parts_at word_at number_at string_at text_at member_at name_at after_number is_utf8 chars encode definitions_in held_within reading
returns-clause-kept c = refl

pub returns-clause-source : goal.returns-clause-source
unfolding placed_reading tree_at value_at list_at parts_at word_at number_at string_at text_at member_at name_at after_number is_utf8 chars encode definitions_in held_within reading
returns-clause-source c = refl

pub returns-clause-third : goal.returns-clause-third
unfolding placed_reading tree_at value_at list_at parts_at word_at number_at string_at text_at member_at name_at after_number is_utf8 chars encode definitions_in held_within reading
returns-clause-third c = refl

pub returns-clause-one_file : goal.returns-clause-one_file
unfolding placed_reading tree_at value_at list_at parts_at word_at number_at string_at text_at member_at name_at after_number is_utf8 chars encode definitions_in held_within reading
returns-clause-one_file c = refl

pub returns-clause-equal : goal.returns-clause-equal
unfolding placed_reading tree_at value_at list_at parts_at word_at number_at string_at text_at member_at name_at after_number is_utf8 chars encode definitions_in held_within reading
returns-clause-equal c = refl

pub returns-clause-once : goal.returns-clause-once
unfolding placed_reading tree_at value_at list_at parts_at word_at number_at string_at text_at member_at name_at after_number is_utf8 chars encode definitions_in held_within reading
returns-clause-once c = refl

pub returns-clause-kinds : goal.returns-clause-kinds
unfolding placed_reading tree_at value_at list_at parts_at word_at number_at string_at text_at member_at name_at after_number is_utf8 chars encode definitions_in held_within reading
returns-clause-kinds c = refl

pub returns-clause-both : goal.returns-clause-both
unfolding placed_reading tree_at value_at list_at parts_at word_at number_at string_at text_at member_at name_at after_number is_utf8 chars encode definitions_in held_within reading
returns-clause-both c = refl
