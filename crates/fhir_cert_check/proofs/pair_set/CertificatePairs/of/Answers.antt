use Rattle.std.proofs.Common.{◌≡◌, ap, ◌∙◌}
use Rattle.std.specs.List.{list_any}
use Rattle.fhir_certificate.specs.declared.pair.Pair.{Pair}
use Rattle.fhir_certificate.specs.declared.pair.Pair.TheVariants.{Item, Kids}
use Rattle.fhir_cert_check.specs.Checking.{same_nodes, is_among}
use Rattle.fhir_cert_check.specs.PairSet.{has_pair}
use Rattle.fhir_cert_check.proofs.pair_set.CertificatePairs.of.Goals as goal

pub returns-clause-same : goal.returns-clause-same
returns-clause-same c = same
  where
    same : (p : Pair) → has_pair (record { items = c.in_ok-items.items.set.keys; kids = c.in_ok-kids.kids.set.keys }) p ≡ is_among c.args.certificate.now p
    same (Item q) = c.in_ok-items.ensures.same q ∙ ap (list_any (same_nodes q)) c.deref.ensures.value ∙ ap (λ v. list_any (same_nodes q) v.items) c.certificate.view_is
    same (Kids q) = c.in_ok-kids.ensures.same q ∙ ap (list_any (same_nodes q)) c.deref-2.ensures.value ∙ ap (λ v. list_any (same_nodes q) v.kids) c.certificate.view_is
