use Rattle.answer_laws.proofs.Audited.{narrowing_counted}
use Rattle.answer_laws.proofs.audits.statuses_of_audits.Goals as goal

pub returns : goal.returns
returns c told = narrowing_counted told
