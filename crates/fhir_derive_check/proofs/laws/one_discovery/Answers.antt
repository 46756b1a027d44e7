use Rattle.fhir_derive_check.proofs.One.{one}
use Rattle.fhir_derive_check.proofs.laws.one_discovery.Goals as goal

pub returns : goal.returns
returns c = λ asks root found others discovery another. one asks root found others discovery another
