use Rattle.std.proofs.Common.{◌≡◌, true, false, ◌∙◌, ap, inr, ◌||◌, arith}
use Rattle.fhir_cert_check.specs.Rules.{is_local}
use Rattle.fhir_cert_check.specs.PairSet.{has_pair}
use Rattle.fhir_derive_check.specs.Finding.{is_in}
use Rattle.fhir_derive_check.specs.Pruning.{waiting_in}
use Rattle.fhir_derive_check.proofs.pruning.revise.Goals as goal

pub returns-clause-revised : goal.returns-clause-revised
returns-clause-revised c = λ queue.
    let counted : has_pair c.args.live.now c.args.pair ≡ true = grind (arith, c.if-not-has.false, c.has.ensures) in
    let wrong : is_local (has_pair c.args.live.now) c.args.schema.now c.args.pair ≡ false = grind (arith, c.if-branch.false, c.in_ok-is_right.ensures) in
    inr (record {
      counted = counted;
      wrong = wrong;
      without = c.remove.ensures;
      listed = λ q. c.in_ok-put_all.ensures.pairs queue q ∙ ap (λ l. is_in l q || is_in (waiting_in c.args.queue.now) q) c.of.ensures;
    })
