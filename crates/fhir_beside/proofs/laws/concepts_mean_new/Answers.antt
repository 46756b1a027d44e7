use Rattle.fhir_beside.proofs.NewSets.{concepts_new}
use Rattle.fhir_beside.proofs.laws.concepts_mean_new.Goals as goal

pub returns : goal.returns
returns c = λ old new beside mark types b. concepts_new old new beside mark types b c.least_closed.ensures.read
