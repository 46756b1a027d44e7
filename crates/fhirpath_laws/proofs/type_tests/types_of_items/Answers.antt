use Rattle.std.proofs.Common.{refl}
use Rattle.fhir_fp_eval.specs.Meaning.{den, of_types}
use Rattle.fhirpath_laws.proofs.type_tests.types_of_items.Goals as goal

pub returns-clause-itself : goal.returns-clause-itself
unfolding den of_types
returns-clause-itself c = refl

pub returns-clause-next : goal.returns-clause-next
unfolding den of_types
returns-clause-next c = refl

pub returns-clause-farther : goal.returns-clause-farther
unfolding den of_types
returns-clause-farther c = refl

pub returns-clause-data : goal.returns-clause-data
unfolding den of_types
returns-clause-data c = refl

pub returns-clause-primitive : goal.returns-clause-primitive
unfolding den of_types
returns-clause-primitive c = refl

pub returns-clause-turned : goal.returns-clause-turned
unfolding den of_types
returns-clause-turned c = refl

pub returns-clause-turned_farther : goal.returns-clause-turned_farther
unfolding den of_types
returns-clause-turned_farther c = refl

pub returns-clause-turned_data : goal.returns-clause-turned_data
unfolding den of_types
returns-clause-turned_data c = refl

pub returns-clause-turned_primitive : goal.returns-clause-turned_primitive
unfolding den of_types
returns-clause-turned_primitive c = refl

pub returns-clause-beside : goal.returns-clause-beside
unfolding den of_types
returns-clause-beside c = refl

pub returns-clause-unknown : goal.returns-clause-unknown
unfolding den of_types
returns-clause-unknown c = refl

pub returns-clause-left_out : goal.returns-clause-left_out
unfolding den of_types
returns-clause-left_out c = refl

pub returns-clause-cast_away : goal.returns-clause-cast_away
unfolding den of_types
returns-clause-cast_away c = refl
