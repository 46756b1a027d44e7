use Rattle.std.proofs.Common.{List, ◌≤◌, length, ap, ◌∙◌, refl, arith, add-one}
use Rattle.fhir_reach.specs.Keys.{KeyValue}
use Rattle.fhir_reach.specs.Search.{visited}
use Rattle.fhir_reach.proofs.Reached.{visited_longer}
use Rattle.fhir_reach.proofs.reaching.find.Goals as goal

pub loop-at-preserved : goal.loop-at-preserved
loop-at-preserved c =
    let p = c.args.«package».now in
    let step = c.in_ok-visit_at.ensures in
    let more : length c.loop-at.found ≤ length c.visit_at.new.found = rw step (visited_longer p c.loop-at.found c.loop-at.at) in
    record {
      found = step ∙ ap (λ (l : List KeyValue). visited p l c.loop-at.at) c.loop-at.invariant.found ∙ rw add-one refl;
      within = omega (arith, more, c.len.ensures, c.loop-at-test.true);
    }
