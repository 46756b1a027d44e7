use Rattle.std.proofs.Common.{sym, subst, inl, inr, IsTrue}
use Rattle.std.specs.List.{Contains}
use Rattle.fhir_cert_check.specs.Asked.{asked_for}
use Rattle.fhir_derive_check.specs.Finding.{is_in}
use Rattle.fhir_derive_check.specs.Pruning.{askers_of}
use Rattle.fhir_derive_check.proofs.Same.{no_pair}
use Rattle.fhir_derive_check.proofs.Pruned.{in-next}
use Rattle.fhir_derive_check.proofs.pruning.askers_among.Goals as goal

pub loop-pair-preserved : goal.loop-pair-preserved
loop-pair-preserved c = λ p q h asked.
    let pairs = c.args.pairs.now in
    let i = c.loop-pair.pair-index in
    let s = c.args.schema.now in
    elim (in-next pairs i no_pair q c.loop-pair-test.true h) [
      | inl earlier ↦ c.in_ok-put_asks.ensures.kept p q (c.loop-pair.invariant p q earlier asked)
      | inr same ↦
          subst (λ x. IsTrue (is_in (askers_of c.put_asks.new.askers p) x)) (sym same)
          (c.in_ok-put_asks.ensures.put p (subst (λ x. Contains (asked_for s x) p) same asked))
    ]
