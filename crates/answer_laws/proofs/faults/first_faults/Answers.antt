use Rattle.fhir_package.specs.Surveying.{refusal}
use Rattle.fhir_derive_check.specs.Faults.{is_missing, is_unusable}
use Rattle.fhir_answers.specs.Answering.{stated}
use Rattle.fhir_answers.specs.Replying.{unreadable_reply}
use Rattle.answer_laws.proofs.FirstFaults.{told_first, missing_first, unusable_next}
use Rattle.answer_laws.proofs.Standings.{opened}
use Rattle.answer_laws.proofs.faults.first_faults.Goals as goal

pub returns-clause-package : goal.returns-clause-package
returns-clause-package c q s files reply fault plain none is = told_first s files reply fault none q plain is

pub returns-clause-resource : goal.returns-clause-resource
returns-clause-resource c s folder profile name given files reply is =
    opened (stated (unreadable_reply name)) reply (refusal s.survey) is.0 is.1

pub returns-clause-missing : goal.returns-clause-missing
returns-clause-missing c s derived base h =
    missing_first (is_missing s derived) (is_missing s base) (is_unusable s derived) (is_unusable s base) h

pub returns-clause-unusable : goal.returns-clause-unusable
returns-clause-unusable c s derived base none h =
    unusable_next (is_missing s derived) (is_missing s base) (is_unusable s derived) (is_unusable s base) none h
