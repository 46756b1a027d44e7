use Rattle.fhir_derive_check.proofs.Ways.{untenable}
use Rattle.fhir_derive_check.proofs.laws.no_way_to_tenable_pairs.Goals as goal

pub returns : goal.returns
returns c = λ s first p way fallen tenable. untenable s first p way fallen tenable
