use Rattle.fhir_snapshot.proofs.Refused.{applies_none}
use Rattle.fhir_snapshot.proofs.laws.numbers_apply.Goals as goal

pub returns : goal.returns
returns c p url number applies = applies_none c.one_answer.ensures.one p url number applies
