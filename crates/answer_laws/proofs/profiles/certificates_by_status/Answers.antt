use Rattle.fhir_package.specs.Surveying.{refusal}
use Rattle.fhir_certificate.specs.Reading.{reading}
use Rattle.fhir_cert_check.specs.Checking.{answer_of}
use Rattle.fhir_answers.specs.Answering.{between, stated}
use Rattle.fhir_answers.specs.Replying.{certificate_reply}
use Rattle.fhir_answers.specs.Session.{schema_in}
use Rattle.answer_laws.proofs.Certificates.{derived_at, underived_at, right_at, wrong_at, unread_at}
use Rattle.answer_laws.proofs.Standings.{opened}
use Rattle.answer_laws.proofs.profiles.certificates_by_status.Goals as goal

pub returns-clause-derived : goal.returns-clause-derived
returns-clause-derived c s folder derived base files reply is e =
    derived_at (schema_in s) derived base reply (opened (between (schema_in s) derived base) reply (refusal s.survey) is.0 is.1) e

pub returns-clause-none : goal.returns-clause-none
returns-clause-none c s folder derived base files reply is e =
    underived_at (schema_in s) derived base reply (opened (between (schema_in s) derived base) reply (refusal s.survey) is.0 is.1) e

pub returns-clause-right : goal.returns-clause-right
returns-clause-right c s folder name bytes files reply is =
    right_at name (schema_in s) (answer_of (reading (schema_in s) bytes) (schema_in s)) reply
    (opened (stated (certificate_reply name (schema_in s) bytes)) reply (refusal s.survey) is.0 is.1)

pub returns-clause-wrong : goal.returns-clause-wrong
returns-clause-wrong c s folder name bytes files reply is e =
    wrong_at name (schema_in s) (answer_of (reading (schema_in s) bytes) (schema_in s)) reply
    (opened (stated (certificate_reply name (schema_in s) bytes)) reply (refusal s.survey) is.0 is.1) e

pub returns-clause-unread : goal.returns-clause-unread
returns-clause-unread c s folder name bytes files reply is e =
    unread_at name (schema_in s) (answer_of (reading (schema_in s) bytes) (schema_in s)) reply
    (opened (stated (certificate_reply name (schema_in s) bytes)) reply (refusal s.survey) is.0 is.1) e
