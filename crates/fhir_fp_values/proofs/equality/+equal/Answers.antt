use Rattle.std.proofs.Common.{◌∙◌, List, ap, arith}
use Rattle.std.proofs.lemmas.Result.{IfOk-weaker}
use Rattle.fhir_instance.specs.Items.{kids_in}
use Rattle.fhir_instance.specs.View.{named_in}
use Rattle.fhir_fp_values.specs.declared.equality.KidRef.{KidRef}
use Rattle.fhir_fp_values.specs.Pairing.{kids_seen, pairwise}
use Rattle.fhir_fp_values.proofs.Sorted.{one_below}
use Rattle.fhir_fp_values.proofs.Pairing.{kids_left}
use Rattle.fhir_fp_values.proofs.ByName.{pairwise_by_name}
use Rattle.fhir_fp_values.proofs.equality.+equal.Goals as goal

pub by_name-returns : goal.by_name-returns
by_name-returns t c =
    IfOk-weaker c.pairwise.result _ _ (λ r is.
    is
    ∙ ap (λ (ks : List KidRef). pairwise (kids_seen ks) (kids_seen c.deref-2.result.now)) c.deref.ensures.value
    ∙ ap (λ (ks : List KidRef). pairwise (kids_seen c.in_ok-own.own.items) (kids_seen ks)) c.deref-2.ensures.value
    ∙ pairwise_by_name (kids_seen c.in_ok-own.own.items) (kids_seen c.in_ok-others.others.items)
    (kids_in (named_in c.args.left.now)) (kids_in (named_in c.args.right.now))
    c.in_ok-own.ensures.ascends c.in_ok-others.ensures.ascends c.in_ok-own.ensures.stable c.in_ok-others.ensures.stable)
    c.pairwise.ensures

pub pairwise-equal_named-requires : goal.pairwise-equal_named-requires
pairwise-equal_named-requires t c =
    let h = one_below c.args.left.now c.loop-one.one-index c.one-item.result (omega arith) c.one-item.is in
    omega (arith, h, c.decreases)

pub pairwise-returns-in-len1-up-rest : goal.pairwise-returns-in-len1-up-rest
pairwise-returns-in-len1-up-rest t c =
    kids_left c.loop-one.all c.args.left.now c.loop-one.rest.now c.loop-one.one-index _ (omega arith) (omega (arith, c.in-len1-up-rest.len_at_least)) c.loop-one.invariant
