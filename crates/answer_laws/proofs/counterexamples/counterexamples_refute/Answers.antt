use Rattle.answer_laws.proofs.Refuted.{refuted, refuted_as_given, refuted_by}
use Rattle.answer_laws.proofs.counterexamples.counterexamples_refute.Goals as goal

pub returns-clause-refutes : goal.returns-clause-refutes
returns-clause-refutes c s derived base bytes shows includes = refuted c.fair_meanings.ensures s derived base bytes shows includes

pub returns-clause-given : goal.returns-clause-given
returns-clause-given c s texts derived base bytes shows includes = refuted_as_given c.fair_meanings.ensures s derived base bytes texts shows includes

pub returns-clause-certificates : goal.returns-clause-certificates
returns-clause-certificates c given s certificate bytes shows right =
    refuted_by c.fair_meanings.ensures s certificate.derived certificate.base bytes given shows (c.certificates_include.ensures s certificate right)
