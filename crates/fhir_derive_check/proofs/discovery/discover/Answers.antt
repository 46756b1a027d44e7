use Rattle.std.proofs.Common.{◌<◌, ◌≤◌, sym, ap, ◌∙◌, length, arith}
use Rattle.std.specs.Prelude.{Some}
use Rattle.std.proofs.lemmas.Option.{slice_get-get_or}
use Rattle.fhir_derive_check.specs.Discovering.{followed}
use Rattle.fhir_derive_check.proofs.Found.{search-step, search-end}
use Rattle.fhir_derive_check.proofs.discovery.discover.Goals as goal

pub loop-at-preserved : goal.loop-at-preserved
loop-at-preserved c =
    let asks = followed c.args.follow c.args.schema.now in
    let order = c.loop-at.found.order.items in
    let pair = c.index-pair.result.now in
    let below : c.loop-at.at < length order = grind (arith, c.loop-at-test.true, c.len.ensures) in
    record {
      search = rw (c.in_ok-visit.ensures.order c.loop-at.invariant.live)
          (search-step asks c.args.first order c.loop-at.at pair
          (slice_get-get_or order c.loop-at.at pair below ∙ ap Some (sym c.index-pair.ensures)) c.loop-at.invariant.search);
      live = c.in_ok-visit.ensures.live c.loop-at.invariant.live;
    }

pub returns-clause-order : goal.returns-clause-order
returns-clause-order c =
    let over : length c.loop-at.found.order.items ≤ c.loop-at.at = grind (arith, c.loop-at-test.false, c.len.ensures) in
    search-end (followed c.args.follow c.args.schema.now) c.args.first c.loop-at.found.order.items c.loop-at.at over
    c.loop-at.invariant.search
