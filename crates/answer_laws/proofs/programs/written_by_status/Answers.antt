use Rattle.std.proofs.Common.{refl}
use Rattle.answer_laws.proofs.Endings.{ended, wrote}
use Rattle.answer_laws.proofs.programs.written_by_status.Goals as goal

pub returns-clause-status : goal.returns-clause-status
returns-clause-status c status old new reply is decided = ended old new reply status is decided

pub returns-clause-written : goal.returns-clause-written
returns-clause-written c status old new reply is decided = wrote old new reply status is decided

pub returns-clause-failed : goal.returns-clause-failed
returns-clause-failed c = (refl, refl)
