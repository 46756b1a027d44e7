use Rattle.std.proofs.Common.{refl}
use Rattle.fhir_codes.proofs.worked.unread_examples.Goals as goal

pub returns-clause-other_version : goal.returns-clause-other_version
returns-clause-other_version c = refl

pub returns-clause-absent : goal.returns-clause-absent
returns-clause-absent c = refl

pub returns-clause-fragment : goal.returns-clause-fragment
returns-clause-fragment c = refl

pub returns-clause-untold : goal.returns-clause-untold
returns-clause-untold c = refl

pub returns-clause-codeless : goal.returns-clause-codeless
returns-clause-codeless c = refl

pub returns-clause-systemless : goal.returns-clause-systemless
returns-clause-systemless c = refl

pub returns-clause-empty : goal.returns-clause-empty
returns-clause-empty c = refl

pub returns-clause-misfits : goal.returns-clause-misfits
returns-clause-misfits c = refl

pub returns-clause-unlisted : goal.returns-clause-unlisted
returns-clause-unlisted c = refl

pub returns-clause-excluded : goal.returns-clause-excluded
returns-clause-excluded c = refl

pub returns-clause-uncomposed : goal.returns-clause-uncomposed
returns-clause-uncomposed c = refl
