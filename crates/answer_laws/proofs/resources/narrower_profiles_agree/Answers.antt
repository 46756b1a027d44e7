use Rattle.fhir_package.specs.Surveying.{refusal}
use Rattle.fhir_answers.specs.Answering.{between, judged}
use Rattle.fhir_answers.specs.Session.{schema_in}
use Rattle.answer_laws.proofs.Agreeing.{agrees}
use Rattle.answer_laws.proofs.Standings.{opened}
use Rattle.answer_laws.proofs.resources.narrower_profiles_agree.Goals as goal

pub returns : goal.returns
returns c s folder derived base name bytes files more others made one other derives made_status first status second =
    agrees c.certificates_include.ensures c.fair_meanings.ensures c.one_tree.ensures (schema_in s) derived base bytes made one other
    (opened (between (schema_in s) derived base) made (refusal s.survey) derives.0 derives.1) made_status
    (opened (judged (schema_in s) derived bytes) one (refusal s.survey) first.0 first.1) status
    (opened (judged (schema_in s) base bytes) other (refusal s.survey) second.0 second.1)
