use Rattle.fhir_unread.proofs.Covered.{said_of_snapshot, said_of_differential}
use Rattle.fhir_unread.proofs.laws.sentences_listed.Goals as goal

pub returns-clause-snapshot : goal.returns-clause-snapshot
returns-clause-snapshot c = λ p url t element one human. said_of_snapshot p url t element one human

pub returns-clause-differential : goal.returns-clause-differential
returns-clause-differential c = λ p url t element one human. said_of_differential p url t element one human
