use Rattle.std.proofs.Common.{ap}
use Rattle.std.specs.Prelude.{Ok}
use Rattle.fhir_fp_eval.specs.Meaning.{den}
use Rattle.fhir_decimal.proofs.Whole.{count_whole}
use Rattle.further_laws.proofs.Places.{at_number}
use Rattle.further_laws.proofs.collections.positions.Goals as goal

pub returns : goal.returns
unfolding den
returns c w a b x vs i h k = rw (h, k, count_whole i) (ap Ok (at_number vs i))
