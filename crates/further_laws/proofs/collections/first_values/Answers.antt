use Rattle.std.proofs.Common.{refl}
use Rattle.fhir_fp_eval.specs.Meaning.{den}
use Rattle.further_laws.proofs.collections.first_values.Goals as goal

pub returns-clause-first : goal.returns-clause-first
unfolding den
returns-clause-first c w a x v vs h = rw (h) refl

pub returns-clause-nothing : goal.returns-clause-nothing
unfolding den
returns-clause-nothing c w a x h = rw (h) refl
