use Rattle.fhir_asking.proofs.Chains.{one_answer, answer_more}
use Rattle.fhir_asking.proofs.laws.one_answer.Goals as goal

pub returns-clause-one : goal.returns-clause-one
returns-clause-one g c = λ asking name one other h k. one_answer asking h.0 k.0 name one other h.1 k.1

pub returns-clause-stays : goal.returns-clause-stays
returns-clause-stays g c = λ asking name thing bound more e. answer_more asking bound more name thing e
