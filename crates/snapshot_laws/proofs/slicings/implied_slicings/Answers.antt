use Rattle.snapshot_laws.proofs.Implied.{unsaid_so}
use Rattle.snapshot_laws.proofs.slicings.implied_slicings.Goals as goal

pub returns : goal.returns
returns c = λ p url id n unsaid. unsaid_so p c.one_answer.ensures.one url id n unsaid
