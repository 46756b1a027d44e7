use Rattle.fhir_reach.proofs.Changed.{both_behind}
use Rattle.fhir_reach.proofs.changing.push_keys.Goals as goal

pub returns : goal.returns
returns c = both_behind c.push_type_code.result _ _ _ _ _ c.in_ok-push_url.ensures c.push_type_code.ensures
