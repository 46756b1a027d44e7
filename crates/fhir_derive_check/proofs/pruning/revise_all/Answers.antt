use Rattle.std.proofs.Common.{◌≡◌, false, [], refl, subst, ap, ◌∙◌, ◌||◌, arith}
use Rattle.fhir_certificate.specs.declared.pair.Pair.{Pair}
use Rattle.fhir_cert_check.specs.PairSet.{has_pair}
use Rattle.fhir_derive_check.specs.Finding.{is_in}
use Rattle.fhir_derive_check.specs.Pruning.{askers_of, waiting_in, IsPruning}
use Rattle.fhir_derive_check.proofs.Pruned.{measure-falls, revised-within, revised, pruning-queued, pruning-end}
use Rattle.fhir_derive_check.proofs.pruning.revise_all.Goals as goal

pub loop-pair-init : goal.loop-pair-init
loop-pair-init c =
    let queue = c.in_ok-put_all.ensures.queue c.new-queue.ensures.queue in
    let put : (p : Pair) → is_in (waiting_in c.put_all.new.self) p ≡ (is_in c.args.list.now p || false) = λ p.
    c.in_ok-put_all.ensures.pairs c.new-queue.ensures.queue p ∙ ap (λ l. is_in c.args.list.now p || is_in l p) c.new-queue.ensures.none
    in
    record {
      order = refl;
      within = c.requires;
      queue = queue;
      pruning = λ first discovery lists start. pruning-queued c.args.schema.now c.args.found.now.order.items (has_pair c.args.found.now.live) c.args.list.now _ put start;
    }

pub loop-pair-smaller : goal.loop-pair-smaller
loop-pair-smaller c =
    let queue = c.take_first.ensures.queue c.loop-pair.invariant.queue in
    measure-falls c.args.schema.now (askers_of c.args.askers.now) c.in-Some.pair c.loop-pair.found.live c.revise.new.live
    (waiting_in c.loop-pair.queue) (waiting_in c.take_first.new.self) c.revise.new.queue c.args.found.now.order.items
    (c.in_ok-revise.ensures.revised queue) c.loop-pair.invariant.within c.in-Some.ensures.first

pub loop-pair-preserved : goal.loop-pair-preserved
loop-pair-preserved c =
    let s = c.args.schema.now in
    let askers = askers_of c.args.askers.now in
    let found = c.args.found.now.order.items in
    let live = c.loop-pair.found.live in
    let now = c.revise.new.live in
    let rest = waiting_in c.take_first.new.self in
    let more = waiting_in c.revise.new.queue in
    let queue = c.take_first.ensures.queue c.loop-pair.invariant.queue in
    let is_revised = c.in_ok-revise.ensures.revised queue in
    record {
      order = c.loop-pair.invariant.order;
      within = revised-within s askers c.in-Some.pair live now rest more found is_revised c.loop-pair.invariant.within;
      queue = c.in_ok-revise.ensures.queue queue;
      pruning = λ first discovery lists start.
          revised s askers c.in-Some.pair live now rest more c.more_pairs.ensures first found discovery lists c.loop-pair.invariant.within is_revised
          (subst (IsPruning s found (has_pair live)) c.in-Some.ensures.first (c.loop-pair.invariant.pruning first discovery lists start));
    }

pub returns-clause-settled : goal.returns-clause-settled
returns-clause-settled c = λ first discovery lists start.
    let s = c.args.schema.now in
    let found = c.args.found.now.order.items in
    let live = has_pair c.loop-pair.found.live in
    let none : waiting_in c.loop-pair.queue ≡ [] = grind (arith, c.take_first.ensures.none, c.in_default.is, c.in_default.not-Some) in
    pruning-end s found live c.loop-pair.invariant.within
    (subst (IsPruning s found live) none (c.loop-pair.invariant.pruning first discovery lists start))
