use Rattle.fhir_asking.proofs.Meaning.{has_is}
use Rattle.fhir_asking.proofs.laws.answers_come_of_answers.Goals as goal

pub returns : goal.returns
returns g c = has_is
