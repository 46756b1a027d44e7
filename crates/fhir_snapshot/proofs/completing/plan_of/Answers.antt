use Rattle.std.proofs.Common.{◌≡◌, ◌+◌, Some, None, sym, ap, subst, ◌∙◌, slice_get}
use Rattle.std.specs.Option.{option_map}
use Rattle.fhir_json.specs.Views.{tree_of}
use Rattle.fhir_asking.specs.Asking.{Holds}
use Rattle.fhir_inheritance.specs.Inheriting.{asking}
use Rattle.fhir_snapshot.specs.Chains.{ending}
use Rattle.fhir_snapshot.specs.Knowing.{AreKnown}
use Rattle.fhir_snapshot.specs.Planning.{PlansOne, Plans}
use Rattle.fhir_snapshot.proofs.Planned.{one_planned, none_planned}
use Rattle.fhir_snapshot.proofs.completing.plan_of.Goals as goal
use Rattle.fhir_snapshot.proofs.completing.plan_of.Goals.{in-Some+in_ok-take_one, in_default}

pub loop-place-preserved : goal.loop-place-preserved
loop-place-preserved c =
    let p = c.args.«package».now in
    let k = c.loop-place.place in
    elim c.match-at.branch [
      | in-Some+in_ok-take_one w ↦
          let url = w.in-Some.url.now in
          let t = tree_of w.in-Some.definition.now in
          let at : slice_get p.structure_definitions k ≡ Some (url, t) =
          sym c.at.ensures ∙ ap (λ o. option_map (λ e. (e.0.now, tree_of e.1.now)) o) w.in-Some.is in
          let one : PlansOne p k url t c.loop-place.plan w.take_one.new.plan =
          subst (λ p. PlansOne p k url t c.loop-place.plan w.take_one.new.plan) c.in_ok-sources.ensures w.in_ok-take_one.ensures.plans in
          record {
            holds =
                subst (Holds (asking p)) (sym w.nodes-is)
                (subst (λ p. Holds (asking p) w.take_one.new.nodes) c.in_ok-sources.ensures w.take_one.ensures.holds);
            ends =
                subst (Holds (ending p)) (sym w.ends-is)
                (subst (λ p. Holds (ending p) w.take_one.new.ends) c.in_ok-sources.ensures w.take_one.ensures.ends);
            known =
                subst (AreKnown p) (sym w.known-is)
                (subst (λ p. AreKnown p w.take_one.new.known) c.in_ok-sources.ensures w.in_ok-take_one.ensures.known);
            plans = subst (Plans p (k + 1)) (sym w.plan-is) (one_planned p k url t c.loop-place.plan w.take_one.new.plan at c.loop-place.invariant.plans one);
          }
      | in_default w ↦
          let none : slice_get p.structure_definitions k ≡ None =
          sym c.at.ensures ∙ ap (λ o. option_map (λ e. (e.0.now, tree_of e.1.now)) o) w.in_default.is in
          record {
            holds = subst (Holds (asking p)) (sym w.nodes-is) c.loop-place.invariant.holds;
            ends = subst (Holds (ending p)) (sym w.ends-is) c.loop-place.invariant.ends;
            known = subst (AreKnown p) (sym w.known-is) c.loop-place.invariant.known;
            plans = subst (Plans p (k + 1)) (sym w.plan-is) (none_planned p k c.loop-place.plan none c.loop-place.invariant.plans);
          }
    ]
