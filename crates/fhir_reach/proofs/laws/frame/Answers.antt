use Rattle.fhir_reach.proofs.Reached.{reached_reach}
use Rattle.fhir_reach.proofs.Framing.{one_reach}
use Rattle.fhir_reach.specs.Keys.{has_key}
use Rattle.fhir_reach.proofs.Keys.{same_tests}
use Rattle.fhir_reach.proofs.laws.frame.Goals as goal

pub returns-clause-least : goal.returns-clause-least
returns-clause-least c = reached_reach

pub returns-clause-one_set : goal.returns-clause-one_set
returns-clause-one_set c = λ p start keys others one other k.
    same_tests (has_key keys k) (has_key others k) (one.least (has_key others) other.closed k) (other.least (has_key keys) one.closed k)

pub returns-clause-one_reach : goal.returns-clause-one_reach
returns-clause-one_reach c = one_reach
