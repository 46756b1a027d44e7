use Rattle.snapshot_laws.proofs.Siblings.{of_sliced, of_type, of_content}
use Rattle.snapshot_laws.proofs.snapshots.siblings_come.Goals as goal

pub returns-clause-of_sliced : goal.returns-clause-of_sliced
returns-clause-of_sliced c = λ p id url sliced name n r plain brings at is there h.
    of_sliced p c.one_answer.ensures.one id url sliced name n r plain brings at is there h

pub returns-clause-of_type : goal.returns-clause-of_type
returns-clause-of_type c = λ p id url kind name n r plain brings at is has h.
    of_type p c.one_answer.ensures.one id url kind name n r plain brings at is has h

pub returns-clause-of_content : goal.returns-clause-of_content
returns-clause-of_content c = λ p id url target name n r plain brings at is has h.
    of_content p c.one_answer.ensures.one id url target name n r plain brings at is has h
