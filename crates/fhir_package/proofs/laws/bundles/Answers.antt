use Rattle.fhir_package.proofs.Holding.{bundle_lem, other_lem}
use Rattle.fhir_package.proofs.laws.bundles.Goals as goal

pub returns-clause-bundle : goal.returns-clause-bundle
returns-clause-bundle c = bundle_lem

pub returns-clause-other : goal.returns-clause-other
returns-clause-other c = other_lem
