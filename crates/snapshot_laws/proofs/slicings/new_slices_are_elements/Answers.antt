use Rattle.snapshot_laws.proofs.Implied.{new_unsliced, like}
use Rattle.snapshot_laws.proofs.slicings.new_slices_are_elements.Goals as goal

pub returns-clause-unsliced : goal.returns-clause-unsliced
returns-clause-unsliced c = λ p url id whole d n new unsaid none. new_unsliced p url id whole d n new unsaid none

pub returns-clause-like : goal.returns-clause-like
returns-clause-like c = λ p url id whole d n w new at.
    like p c.one_answer.ensures.one c.constraints_stay.ensures.stay url id whole d n w new at
