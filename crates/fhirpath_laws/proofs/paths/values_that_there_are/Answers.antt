use Rattle.std.proofs.Common.{refl}
use Rattle.fhir_fp_eval.specs.Meaning.{den}
use Rattle.fhirpath_laws.proofs.paths.values_that_there_are.Goals as goal

pub returns-clause-some : goal.returns-clause-some
unfolding den
returns-clause-some c w a x v vs h = rw (h) refl

pub returns-clause-none : goal.returns-clause-none
unfolding den
returns-clause-none c w a x h = rw (h) refl

pub returns-clause-not_empty : goal.returns-clause-not_empty
unfolding den
returns-clause-not_empty c w a x v vs h = rw (h) refl

pub returns-clause-empty : goal.returns-clause-empty
unfolding den
returns-clause-empty c w a x h = rw (h) refl

pub returns-clause-as_many : goal.returns-clause-as_many
unfolding den
returns-clause-as_many c w a x vs h = rw (h) refl
