use Rattle.std.proofs.Common.{sym, ap, ◌∙◌, ◌||◌, get_or}
use Rattle.fhir_cert_check.specs.PairSet.{same_pair}
use Rattle.fhir_derive_check.specs.Finding.{is_in}
use Rattle.fhir_derive_check.specs.Pruning.{waiting_in}
use Rattle.fhir_derive_check.proofs.Queued.{in-one_more}
use Rattle.fhir_derive_check.proofs.Same.{no_pair}
use Rattle.fhir_derive_check.proofs.queue.Queue.put_all.Goals as goal

pub loop-pair-preserved : goal.loop-pair-preserved
loop-pair-preserved c =
    let before = c.loop-pair.invariant in
    let pairs = c.args.pairs.now in
    let i = c.loop-pair.pair-index in
    record {
      pairs = λ h p.
          c.in_ok-put.ensures.pairs (before.queue h) p ∙ ap (λ b. same_pair p (get_or pairs i no_pair) || b) (before.pairs h p)
          ∙ sym (in-one_more pairs i no_pair p (is_in (waiting_in c.args.self.now) p) c.loop-pair-test.true);
      queue = λ h. c.in_ok-put.ensures.queue (before.queue h);
    }
