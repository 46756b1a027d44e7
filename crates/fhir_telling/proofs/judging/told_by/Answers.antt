use Rattle.std.proofs.Common.{map, ap}
use Rattle.fhir_telling.specs.Views.{judgement_seen}
use Rattle.fhir_telling.proofs.Parts.{told_by}
use Rattle.fhir_telling.proofs.judging.told_by.Goals as goal

pub returns : goal.returns
returns c = (
  judgement_seen c.in_ok-judgement.judgement,
  c.in_ok-judgement.ensures,
  told_by _ _ _ _ c.of-verdict.ensures (ap (λ js. map judgement_seen js) c.in_ok-judgements.ensures.items),
)
