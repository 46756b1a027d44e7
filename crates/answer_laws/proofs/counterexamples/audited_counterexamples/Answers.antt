use Rattle.answer_laws.proofs.Refuted.{refuted_by}
use Rattle.answer_laws.proofs.counterexamples.audited_counterexamples.Goals as goal

pub returns-clause-narrows : goal.returns-clause-narrows
returns-clause-narrows c given s url base certificate is = is.includes

pub returns-clause-does_not_narrow : goal.returns-clause-does_not_narrow
returns-clause-does_not_narrow c given s url base resource pair rule is includes =
    refuted_by c.fair_meanings.ensures s url base resource given is.1.shows includes
