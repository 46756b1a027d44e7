use Rattle.fhir_package.specs.Surveying.{refusal}
use Rattle.fhir_answers.specs.Answering.{judged, judged_as_given}
use Rattle.fhir_answers.specs.Session.{schema_in}
use Rattle.answer_laws.proofs.Standings.{opened, outcome_by, given_outcome}
use Rattle.answer_laws.proofs.resources.outcomes_by_status.Goals as goal

pub returns-clause-plain : goal.returns-clause-plain
returns-clause-plain c s folder profile name bytes files reply is =
    outcome_by (schema_in s) profile bytes reply (opened (judged (schema_in s) profile bytes) reply (refusal s.survey) is.0 is.1)

pub returns-clause-given : goal.returns-clause-given
returns-clause-given c s folder profile name bytes given lines files reply is plain =
    given_outcome s profile bytes given lines reply (opened (judged_as_given s profile bytes given lines) reply (refusal s.survey) is.0 is.1) plain
