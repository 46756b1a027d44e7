use Rattle.fhir_package.proofs.Rising.{rising_lem, same_lem}
use Rattle.fhir_package.proofs.laws.ordered_names.Goals as goal

pub returns-clause-rising : goal.returns-clause-rising
returns-clause-rising c = rising_lem

pub returns-clause-same : goal.returns-clause-same
returns-clause-same c = same_lem
