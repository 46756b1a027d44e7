use Rattle.std.proofs.Common.{sym, subst, take}
use Rattle.std.proofs.lemmas.List.{take_more}
use Rattle.fhir_certificate.specs.declared.pair.NodePair.{NodePair}
use Rattle.fhir_cert_check.specs.PairSet.{AreMarked}
use Rattle.fhir_cert_check.proofs.pair_set.marked.Goals as goal

pub loop-pair-preserved : goal.loop-pair-preserved
loop-pair-preserved c =
    let d : NodePair = record { derived = record { definition = 0; element = 0 }; base = record { definition = 0; element = 0 } } in
    subst (AreMarked c.put.new.set.keys c.put.new.repeated.items) (sym (take_more c.args.pairs.now c.loop-pair.pair-index d c.loop-pair-test.true))
    (c.in_ok-put.ensures (take c.loop-pair.pair-index c.args.pairs.now) c.loop-pair.invariant)
