use Rattle.std.proofs.Common.{refl}
use Rattle.fhir_fp_eval.specs.Meaning.{den}
use Rattle.further_laws.proofs.collections.membership.Goals as goal

pub returns-clause-one : goal.returns-clause-one
unfolding den
returns-clause-one c w a b x v us h k = rw (h, k) refl

pub returns-clause-nothing : goal.returns-clause-nothing
unfolding den
returns-clause-nothing c w a b x us h k = rw (h, k) refl
