use Rattle.fhir_beside.proofs.Listed.{listed_has}
use Rattle.fhir_beside.proofs.laws.listed_sets_are_read.Goals as goal

pub returns : goal.returns
returns c = listed_has
