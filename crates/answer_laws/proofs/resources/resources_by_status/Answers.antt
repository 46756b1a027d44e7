use Rattle.fhir_package.specs.Surveying.{refusal}
use Rattle.fhir_answers.specs.Answering.{judged}
use Rattle.fhir_answers.specs.Session.{schema_in}
use Rattle.answer_laws.proofs.Standings.{opened, conforms_by, violates_by, open_by, fault_by}
use Rattle.answer_laws.proofs.resources.resources_by_status.Goals as goal

pub returns-clause-conforms : goal.returns-clause-conforms
returns-clause-conforms c s folder profile name bytes files reply is e =
    conforms_by (schema_in s) profile bytes reply (opened (judged (schema_in s) profile bytes) reply (refusal s.survey) is.0 is.1) e

pub returns-clause-violates : goal.returns-clause-violates
returns-clause-violates c s folder profile name bytes files reply is e =
    violates_by (schema_in s) profile bytes reply (opened (judged (schema_in s) profile bytes) reply (refusal s.survey) is.0 is.1) e

pub returns-clause-open : goal.returns-clause-open
returns-clause-open c s folder profile name bytes files reply is e =
    open_by (schema_in s) profile bytes reply (opened (judged (schema_in s) profile bytes) reply (refusal s.survey) is.0 is.1) e

pub returns-clause-fault : goal.returns-clause-fault
returns-clause-fault c s folder profile name bytes files reply is e =
    fault_by (schema_in s) profile bytes reply (opened (judged (schema_in s) profile bytes) reply (refusal s.survey) is.0 is.1) e
