use Rattle.std.proofs.Common.{refl}
use Rattle.fhir_fp_eval.specs.Meaning.{den, of_types}
use Rattle.fhirpath_laws.proofs.type_tests.casts.Goals as goal

pub returns-clause-other : goal.returns-clause-other
unfolding den of_types
returns-clause-other c w x type h = rw h refl

pub returns-clause-nothing : goal.returns-clause-nothing
unfolding den
returns-clause-nothing c w a type x h = rw (h) refl

pub returns-clause-is_of_several : goal.returns-clause-is_of_several
unfolding den
returns-clause-is_of_several c w a type x v u vs h = rw (h) refl

pub returns-clause-as_of_several : goal.returns-clause-as_of_several
unfolding den
returns-clause-as_of_several c w a type x v u vs h = rw (h) refl
