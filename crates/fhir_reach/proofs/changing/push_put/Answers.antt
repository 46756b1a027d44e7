use Rattle.fhir_reach.proofs.Changed.{both_behind}
use Rattle.fhir_reach.proofs.changing.push_put.Goals as goal

pub returns : goal.returns
returns c =
    rw (← c.kind-kind.ensures, ← c.url-url.ensures, ← c.tree.ensures)
    (both_behind c.push_first.result _ _ _ _ _ c.in_ok-push_keys.ensures c.push_first.ensures)
