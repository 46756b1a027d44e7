use Rattle.fhir_package.specs.Surveying.{refusal}
use Rattle.fhir_answers.specs.Answering.{between}
use Rattle.fhir_answers.specs.Session.{schema_in}
use Rattle.answer_laws.proofs.Alike.{alike}
use Rattle.answer_laws.proofs.Standings.{opened}
use Rattle.answer_laws.proofs.audits.audits_agree_with_derive.Goals as goal

pub returns : goal.returns
returns c given s folder url base verdict files reply said derives =
    alike given (schema_in s) url base reply (opened (between (schema_in s) url base) reply (refusal s.survey) derives.0 derives.1) verdict said
