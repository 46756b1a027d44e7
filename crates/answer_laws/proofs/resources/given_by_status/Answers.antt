use Rattle.fhir_package.specs.Surveying.{refusal}
use Rattle.fhir_answers.specs.Answering.{judged_as_given}
use Rattle.answer_laws.proofs.Standings.{opened, given_conforms, given_violates, given_open}
use Rattle.answer_laws.proofs.resources.given_by_status.Goals as goal

pub returns-clause-conforms : goal.returns-clause-conforms
returns-clause-conforms c s folder profile name bytes given lines files reply is e =
    given_conforms s profile bytes given lines reply (opened (judged_as_given s profile bytes given lines) reply (refusal s.survey) is.0 is.1) e

pub returns-clause-violates : goal.returns-clause-violates
returns-clause-violates c s folder profile name bytes given lines files reply is e =
    given_violates s profile bytes given lines reply (opened (judged_as_given s profile bytes given lines) reply (refusal s.survey) is.0 is.1) e

pub returns-clause-open : goal.returns-clause-open
returns-clause-open c s folder profile name bytes given lines files reply is e =
    given_open s profile bytes given lines reply (opened (judged_as_given s profile bytes given lines) reply (refusal s.survey) is.0 is.1) e
