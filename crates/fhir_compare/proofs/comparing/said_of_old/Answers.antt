use Rattle.std.proofs.Common.{length}
use Rattle.std.proofs.lemmas.List.{length_push}
use Rattle.std.proofs.lemmas.Iterator.Adapters.{YieldsList-from_vec}
use Rattle.std.proofs.lemmas.Iterator.Consumers.{YieldsList-from_enumerate, YieldsList-turn, YieldsList-end}
use Rattle.fhir_compare.specs.Owns.{all_said_by}
use Rattle.fhir_compare.specs.Views.{all_owns, all_said}
use Rattle.fhir_compare.proofs.Numbered.{said_turn, said_end}
use Rattle.fhir_compare.proofs.comparing.said_of_old.Goals as goal

pub loop-place-preserved : goal.loop-place-preserved
loop-place-preserved c =
    let blamed = c.args.blamed.now in
    let yields =
    YieldsList-from_enumerate {s = c.into_iter-place-iterator.result}
    (YieldsList-from_vec {s = c.into_iter-place-iterator.result.iter} c.args.all.items (cc) (cc)) (cc) in
    let at =
    YieldsList-turn yields c.loop-place.yielded c.loop-place.place-iterator c.loop-place.yielded_by c.next.result c.next.new.self
    (c.in-Some.place, c.in-Some.own) c.in-Some.is c.next.ensures.steps in
    rw (length_push c.loop-place.yielded (c.in-Some.place, c.in-Some.own))
    (said_turn c.args.old.now blamed.new_in_old.items blamed.old_in_new.items c.args.all.items (length c.loop-place.yielded)
    (c.in-Some.place, c.in-Some.own) (all_said c.loop-place.said.items) (all_said c.push_verdict.new.into.items)
    (all_said_by c.args.old.now blamed.new_in_old.items blamed.old_in_new.items 0 (all_owns c.args.all.items)) at.0 at.1
    c.in_ok-push_verdict.ensures c.loop-place.invariant)

pub returns : goal.returns
returns c =
    let blamed = c.args.blamed.now in
    let yields =
    YieldsList-from_enumerate {s = c.into_iter-place-iterator.result}
    (YieldsList-from_vec {s = c.into_iter-place-iterator.result.iter} c.args.all.items (cc) (cc)) (cc) in
    let end =
    YieldsList-end yields c.loop-place.yielded c.loop-place.place-iterator c.loop-place.yielded_by c.next.result c.next.new.self c.in-None.is
    c.next.ensures.steps in
    said_end c.args.old.now blamed.new_in_old.items blamed.old_in_new.items c.args.all.items (length c.loop-place.yielded)
    (all_said c.loop-place.said.items) (all_said_by c.args.old.now blamed.new_in_old.items blamed.old_in_new.items 0 (all_owns c.args.all.items)) end.1
    c.loop-place.invariant
