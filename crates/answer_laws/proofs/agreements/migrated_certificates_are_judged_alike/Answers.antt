use Rattle.fhir_package.specs.Surveying.{refusal}
use Rattle.fhir_certificate.specs.Migrating.{migrated}
use Rattle.fhir_answers.specs.Answering.{stated}
use Rattle.fhir_answers.specs.Replying.{out_of, certificate_reply, migrated_reply}
use Rattle.fhir_answers.specs.Session.{schema_in}
use Rattle.answer_laws.proofs.ReadBack.{session_sound, session_once, migrated_is, judged_alike}
use Rattle.answer_laws.proofs.Standings.{opened}
use Rattle.answer_laws.proofs.agreements.migrated_certificates_are_judged_alike.Goals as goal

pub returns : goal.returns
returns c folder s named old new bytes files more others made one other is right migrates status first second =
    let sound = session_sound c.changes.ensures.packed c.surveys.ensures.packed c.given_files.ensures.given c.completed_packages.ensures.sound
    c.completed_packages.ensures.once folder s is migrates.0 right in
    let once = session_once c.changes.ensures.packed c.surveys.ensures.packed c.given_files.ensures.given c.completed_packages.ensures.sound
    c.completed_packages.ensures.once folder s is migrates.0 in
    let is_made = opened (stated (migrated_reply old (migrated (schema_in s) bytes))) made (refusal s.survey) migrates.0 migrates.1 in
    let is_one = opened (stated (certificate_reply old (schema_in s) bytes)) one (refusal s.survey) first.0 first.1 in
    let is_other = opened (stated (certificate_reply new (schema_in s) (out_of made))) other (refusal s.survey) second.0 second.1 in
    judged_alike (schema_in s) old new bytes made one other is_made status is_one is_other
    (c.migrated_alike.ensures s.survey.definitions bytes (out_of made) sound once
    (migrated_is (schema_in s) old new bytes made one other is_made status is_one is_other))
