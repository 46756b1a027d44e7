use Rattle.std.proofs.Common.{[], ap}
use Rattle.std.specs.Prelude.{Ok}
use Rattle.fhir_fp_eval.specs.Meaning.{den}
use Rattle.further_laws.proofs.Once.{shared_is}
use Rattle.further_laws.proofs.collections.shared_values.Goals as goal

pub returns : goal.returns
unfolding den
returns c w a b x vs us h k = rw (h, k) (ap Ok (shared_is us vs []))
