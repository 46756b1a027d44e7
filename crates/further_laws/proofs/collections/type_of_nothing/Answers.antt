use Rattle.std.proofs.Common.{refl}
use Rattle.fhir_fp_eval.specs.Meaning.{den}
use Rattle.further_laws.proofs.collections.type_of_nothing.Goals as goal

pub returns : goal.returns
unfolding den
returns c w a x type h = rw (h) refl
