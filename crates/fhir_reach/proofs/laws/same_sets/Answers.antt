use Rattle.fhir_reach.proofs.Restricted.{same_itself, tests_as, restricts_as}
use Rattle.fhir_reach.proofs.laws.same_sets.Goals as goal

pub returns-clause-itself : goal.returns-clause-itself
returns-clause-itself c = same_itself

pub returns-clause-tests : goal.returns-clause-tests
returns-clause-tests c = tests_as

pub returns-clause-restrictions : goal.returns-clause-restrictions
returns-clause-restrictions c = restricts_as
