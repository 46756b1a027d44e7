use Rattle.answer_laws.proofs.Told.{worst_told, blank_told}
use Rattle.answer_laws.proofs.runs.statuses_of_runs.Goals as goal

pub returns-clause-worst : goal.returns-clause-worst
returns-clause-worst c vs = worst_told vs

pub returns-clause-blank : goal.returns-clause-blank
returns-clause-blank c vs = blank_told vs
