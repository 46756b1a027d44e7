use Rattle.std.proofs.Common.{ap, subst, ◌∙◌, map}
use Rattle.std.proofs.lemmas.Result.{on_ok_weaker}
use Rattle.fhir_cert_check.specs.PairSet.{has_pair}
use Rattle.fhir_derive_check.specs.Pruning.{askers_of, ListsAskers}
use Rattle.fhir_derive_check.proofs.Pruned.{pairs-seen, pruning-start}
use Rattle.fhir_derive_check.proofs.pruning.prune.Goals as goal

pub returns-clause-settled : goal.returns-clause-settled
returns-clause-settled c =
    let s = c.args.schema.now in
    let found = c.args.found.now.order.items in
    on_ok_weaker c.revise_all.result
    (λ settled first discovery wrongs. settled first discovery
    (subst (λ l. ListsAskers s l (askers_of c.in_ok-askers.askers)) c.deref.ensures.value c.in_ok-askers.ensures)
    (pruning-start s found (has_pair c.args.found.now.live) c.deref-2.result.now c.requires
    (c.deref-2.ensures.value ∙ c.in_ok-list.ensures ∙ pairs-seen c.args.wrongs.now ∙ ap (map (λ wrong. wrong.0)) wrongs)))
    c.revise_all.ensures.settled
