use Rattle.fhir_prims.proofs.Empty.{none_empty}
use Rattle.fhir_prims.proofs.laws.empty_values.Goals as goal

pub returns-clause-text : goal.returns-clause-text
returns-clause-text c = none_empty
