use Rattle.snapshot_laws.proofs.Inherited.{of_sliced, of_type, of_content}
use Rattle.snapshot_laws.proofs.children.new_children.Goals as goal

pub returns-clause-of_sliced : goal.returns-clause-of_sliced
returns-clause-of_sliced c = λ p url id sliced parent n r child is plain at.
    of_sliced p c.one_answer.ensures.one c.constraints_stay.ensures.stay url id sliced parent n r child is plain at

pub returns-clause-of_type : goal.returns-clause-of_type
returns-clause-of_type c = λ p url id root kind parent n r child none is plain at.
    of_type p c.one_answer.ensures.one c.constraints_stay.ensures.stay url id root kind parent n r child none is plain at

pub returns-clause-of_content : goal.returns-clause-of_content
returns-clause-of_content c = λ p url id target other parent n r child none untyped is plain at.
    of_content p c.one_answer.ensures.one c.constraints_stay.ensures.stay url id target other parent n r child none untyped is plain at
