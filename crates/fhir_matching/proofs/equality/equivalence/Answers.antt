use Rattle.fhir_matching.proofs.Laws.{equal-refl, equal-sym, equal-trans}
use Rattle.fhir_matching.proofs.equality.equivalence.Goals as goal

pub returns-clause-reflexive : goal.returns-clause-reflexive
returns-clause-reflexive c = equal-refl

pub returns-clause-symmetric : goal.returns-clause-symmetric
returns-clause-symmetric c = equal-sym

pub returns-clause-transitive : goal.returns-clause-transitive
returns-clause-transitive c = equal-trans
