use Rattle.std.proofs.Common.{refl}
use Rattle.fhir_fp_eval.specs.Meaning.{den}
use Rattle.fhir_fp_eval.proofs.laws.contains_is_in.Goals as goal

pub returns : goal.returns
unfolding den
returns c w a b x vs us h k = rw (h, k) refl
