use Rattle.std.proofs.Common.{List, subst}
use Rattle.fhir_json.specs.Tree.{Text}
use Rattle.fhir_certificate.specs.Numbering.{AreFound}
use Rattle.fhir_certificate.proofs.Found.{pairs_more, pairs_whole}
use Rattle.fhir_certificate.proofs.numbering.put_pairs.Goals as goal

pub loop-pair-preserved : goal.loop-pair-preserved
loop-pair-preserved c = λ us h.
    subst (λ (vs : List Text). AreFound c.put_pair.new.urls.items c.put_pair.new.places vs)
    (pairs_more c.args.schema.now us c.args.pairs.now c.loop-pair.pair-index _ c.loop-pair-test.true)
    (c.in_ok-put_pair.ensures _ (c.loop-pair.invariant us h))

pub returns : goal.returns
returns c = λ us h.
    subst (λ (vs : List Text). AreFound c.loop-pair.urls.items c.loop-pair.places vs)
    (pairs_whole c.args.schema.now us c.args.pairs.now c.loop-pair.pair-index c.loop-pair-test.false) (c.loop-pair.invariant us h)
