use Rattle.std.proofs.Common.{inl, inr, get_or}
use Rattle.fhir_cert_check.specs.PairSet.{same_pair}
use Rattle.fhir_derive_check.specs.Pruning.{askers_of}
use Rattle.fhir_derive_check.proofs.Same.{no_pair}
use Rattle.fhir_derive_check.proofs.Pruned.{put-kept, put-there, in-next}
use Rattle.fhir_derive_check.proofs.pruning.put_asks.Goals as goal

pub loop-next-preserved : goal.loop-next-preserved
loop-next-preserved c =
    let before = c.loop-next.invariant in
    let items = c.deref-next-items.result.now in
    let i = c.loop-next.next-index in
    let next = get_or items i no_pair in
    let old = askers_of c.loop-next.askers in
    let new = askers_of c.put.new.self in
    record {
      kept = λ p q h. put-kept (old p) (new p) (same_pair p next) c.args.asker q (c.in_ok-put.ensures p) (before.kept p q h);
      there = λ p h. elim (in-next items i no_pair p c.loop-next-test.true h) [
        | inl earlier ↦ put-kept (old p) (new p) (same_pair p next) c.args.asker c.args.asker (c.in_ok-put.ensures p) (before.there p earlier)
        | inr same ↦ put-there (old p) (new p) p next c.args.asker (c.in_ok-put.ensures p) same
      ];
    }
