use Rattle.fhir_package.specs.Surveying.{refusal}
use Rattle.fhir_certificate.specs.Reading.{reading}
use Rattle.fhir_cert_check.specs.Checking.{answer_of}
use Rattle.fhir_answers.specs.Answering.{stated}
use Rattle.fhir_answers.specs.Replying.{certificate_reply}
use Rattle.fhir_answers.specs.Session.{schema_in}
use Rattle.answer_laws.proofs.Certificates.{right_at, clean_with}
use Rattle.answer_laws.proofs.Standings.{opened}
use Rattle.answer_laws.proofs.agreements.checks_agree_with_certify.Goals as goal

pub returns : goal.returns
returns c s named name bytes manner files others reply other is certified =
    let clean = clean_with manner s name bytes reply is in
    let right = right_at name (schema_in s) (answer_of (reading (schema_in s) bytes) (schema_in s)) other
    (opened (stated (certificate_reply name (schema_in s) bytes)) other (refusal s.survey) certified.0 certified.1) in
    (λ e. let h = clean.0 e in (h.0, h.1, right.1 h.2), λ h. clean.1 (h.0, h.1, right.0 h.2))
