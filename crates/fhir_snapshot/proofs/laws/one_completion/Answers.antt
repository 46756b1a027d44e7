use Rattle.fhir_snapshot.proofs.Snapshotting.{one_snapshot}
use Rattle.fhir_snapshot.proofs.Completed.{one_completed}
use Rattle.fhir_snapshot.proofs.laws.one_completion.Goals as goal

pub returns-clause-snapshots : goal.returns-clause-snapshots
returns-clause-snapshots c p url one other a b = one_snapshot c.one_answer.ensures.one p a.0 b.0 url one other a.1 b.1

pub returns-clause-packages : goal.returns-clause-packages
returns-clause-packages c old one other faults more a b = (one_completed c.one_answer.ensures.one old one other faults more a b).0

pub returns-clause-listed : goal.returns-clause-listed
returns-clause-listed c old one other faults more a b = (one_completed c.one_answer.ensures.one old one other faults more a b).1
