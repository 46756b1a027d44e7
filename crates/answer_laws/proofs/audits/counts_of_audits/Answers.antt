use Rattle.std.proofs.Common.{refl}
use Rattle.std.specs.Fmt.{digits}
use Rattle.answer_laws.proofs.Audited.{all_counted}
use Rattle.answer_laws.proofs.audits.counts_of_audits.Goals as goal

pub returns-clause-all : goal.returns-clause-all
returns-clause-all c told = all_counted told

pub returns-clause-shown : goal.returns-clause-shown
unfolding digits
returns-clause-shown c = refl
