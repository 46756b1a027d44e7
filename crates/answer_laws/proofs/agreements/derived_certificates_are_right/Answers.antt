use Rattle.fhir_package.specs.Surveying.{refusal}
use Rattle.fhir_certificate.specs.Reading.{reading}
use Rattle.fhir_cert_check.specs.Checking.{answer_of}
use Rattle.fhir_answers.specs.Answering.{between, stated}
use Rattle.fhir_answers.specs.Replying.{out_of, certificate_reply}
use Rattle.fhir_answers.specs.Session.{schema_in}
use Rattle.answer_laws.proofs.Certificates.{right_at}
use Rattle.answer_laws.proofs.ReadBack.{read_reply, session_sound, session_once}
use Rattle.answer_laws.proofs.Standings.{opened}
use Rattle.answer_laws.proofs.agreements.derived_certificates_are_right.Goals as goal

pub returns : goal.returns
returns c folder s named derived base files reply is right told status =
    let sound = session_sound c.changes.ensures.packed c.surveys.ensures.packed c.given_files.ensures.given c.completed_packages.ensures.sound
    c.completed_packages.ensures.once folder s is told.0 right in
    let once = session_once c.changes.ensures.packed c.surveys.ensures.packed c.given_files.ensures.given c.completed_packages.ensures.sound
    c.completed_packages.ensures.once folder s is told.0 in
    let back = read_reply c.written_back_in_packages.ensures.read c.asked_are_nodes.ensures s.survey.definitions sound once derived base reply
    (opened (between (schema_in s) derived base) reply (refusal s.survey) told.0 told.1) status in (
      back.certificate,
      back.text_is,
      λ room named name files other read.
          (right_at name (schema_in s) (answer_of (reading (schema_in s) (out_of reply)) (schema_in s)) other
          (opened (stated (certificate_reply name (schema_in s) (out_of reply))) other (refusal s.survey) read.0 read.1)).1 (back.reads room),
    )
