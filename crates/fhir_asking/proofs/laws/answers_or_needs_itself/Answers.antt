use Rattle.fhir_asking.proofs.Meaning.{needs_itself_is}
use Rattle.fhir_asking.proofs.laws.answers_or_needs_itself.Goals as goal

pub returns : goal.returns
returns g c = needs_itself_is
