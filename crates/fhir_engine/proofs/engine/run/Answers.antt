use Rattle.fhir_answers.specs.Views.{files_seen}
use Rattle.fhir_words.specs.Views.{asked_seen}
use Rattle.fhir_engine.proofs.Promises.{of_words}
use Rattle.fhir_engine.proofs.engine.run.Goals as goal

pub returns-clause-promised : goal.returns-clause-promised
returns-clause-promised g c is =
    of_words c.given_files.ensures.of_folder (asked_seen c.args.asked.now) _ c.files_of-read.result (files_seen c.args.files.now) c.files_of-read.ensures
    (c.answer_words.ensures.promised is)

pub returns-clause-told : goal.returns-clause-told
returns-clause-told g c not =
    let said = c.answer_words.ensures.told not in (c.files_of-read.result, said.0, c.files_of-read.ensures, said.1, said.2, said.3, said.4)
