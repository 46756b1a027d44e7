use Rattle.fhir_package.specs.Surveying.{refusal}
use Rattle.fhir_answers.specs.Answering.{listed}
use Rattle.answer_laws.proofs.Printed.{printed}
use Rattle.answer_laws.proofs.Standings.{opened}
use Rattle.answer_laws.proofs.snapshots.printed_snapshots_are_used.Goals as goal

pub returns : goal.returns
returns c s folder url files reply is status usable =
    printed c.least_closed.ensures.closed s.survey.definitions url reply
    (opened (listed s.survey.definitions url) reply (refusal s.survey) is.0 is.1) status usable
