use Rattle.std.proofs.Common.{sym, ap, ◌∙◌, get_or}
use Rattle.fhir_derive_check.specs.Finding.{added}
use Rattle.fhir_derive_check.proofs.Found.{all_added-next}
use Rattle.fhir_derive_check.proofs.Same.{no_pair}
use Rattle.fhir_derive_check.proofs.discovery.visit.Goals as goal

pub loop-next-preserved : goal.loop-next-preserved
loop-next-preserved c =
    let before = c.loop-next.invariant in
    let items = c.deref-next-items.result.now in
    let i = c.loop-next.next-index in
    record {
      order = λ h.
          c.in_ok-put.ensures.order (before.live h) ∙ ap (λ seen. added seen (get_or items i no_pair)) (before.order h)
          ∙ sym (all_added-next items c.args.found.now.order.items i no_pair c.loop-next-test.true);
      live = λ h. c.in_ok-put.ensures.live (before.live h);
    }
