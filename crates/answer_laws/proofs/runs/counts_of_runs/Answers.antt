use Rattle.std.proofs.Common.{refl}
use Rattle.std.specs.Fmt.{digits}
use Rattle.answer_laws.proofs.Told.{counted_told, all_told}
use Rattle.answer_laws.proofs.runs.counts_of_runs.Goals as goal

pub returns-clause-shown : goal.returns-clause-shown
unfolding digits
returns-clause-shown c = refl

pub returns-clause-each : goal.returns-clause-each
returns-clause-each c v vs fits = counted_told v vs fits

pub returns-clause-all : goal.returns-clause-all
returns-clause-all c vs fits = all_told vs fits
