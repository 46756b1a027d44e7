use Rattle.fhir_package.specs.Surveying.{refusal}
use Rattle.fhir_certificate.specs.Reading.{reading}
use Rattle.fhir_cert_check.specs.Checking.{answer_of}
use Rattle.fhir_answers.specs.Answering.{between, stated}
use Rattle.fhir_answers.specs.Replying.{certificate_reply}
use Rattle.fhir_answers.specs.Session.{schema_in}
use Rattle.answer_laws.proofs.Certificates.{derived_then, right_at}
use Rattle.answer_laws.proofs.ReadBack.{certificate_there}
use Rattle.answer_laws.proofs.Standings.{opened}
use Rattle.answer_laws.proofs.agreements.right_certificates_are_derived.Goals as goal

pub returns : goal.returns
returns c s named name bytes certificate files others one other certified status reads derives =
    let right = (right_at name (schema_in s) (answer_of (reading (schema_in s) bytes) (schema_in s)) one
    (opened (stated (certificate_reply name (schema_in s) bytes)) one (refusal s.survey) certified.0 certified.1)).0 status in
    derived_then (schema_in s) certificate.derived certificate.base other
    (opened (between (schema_in s) certificate.derived certificate.base) other (refusal s.survey) derives.0 derives.1)
    (certificate_there (schema_in s) certificate bytes reads right)
