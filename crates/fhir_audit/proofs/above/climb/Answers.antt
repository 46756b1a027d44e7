use Rattle.std.proofs.Common.{◌≡◌, ◌⊎◌, ◌<◌, length, set, true, Some, sym, subst, arith, ◌∙◌}
use Rattle.fhir_audit.proofs.Climbing.{base_within, mark_kept, begun_more, rests_more, within_more, next_more, IsNextWithin}
use Rattle.fhir_audit.specs.Asked.{base_place}
use Rattle.fhir_audit.specs.Marks.{IsMarked, RestsWithin}
use Rattle.fhir_audit.proofs.above.climb.Goals as goal

pub loop-at-preserved : goal.loop-at-preserved
loop-at-preserved c =
    let p = c.args.package.now in
    let marks = c.loop-at.marks in
    let place = c.in-Some.place in
    let at : c.loop-at.at ≡ Some place = c.in-Some.is in
    let lt : place < length marks = omega arith in
    let now = c.base_place-at.result in
    let is : now ≡ base_place p place = c.base_place-at.ensures in
    let held = c.loop-at.invariant in
    record {
      inside = λ base on. subst (λ n. base < n) (sym c.requires.long) (base_within p place base (sym is ∙ on));
      kept = λ n m. mark_kept marks place n lt (held.kept n m);
      begun = subst (λ o. (o ≡ Some c.args.from) ⊎ IsMarked (set marks place true) c.args.from) (sym is) (begun_more p marks c.args.from place c.loop-at.at lt at held.begun);
      within = within_more p c.args.marks.now marks c.args.from place lt (subst (λ o. IsNextWithin p c.args.marks.now c.args.from o) at held.next) held.within;
      next = subst (λ o. IsNextWithin p c.args.marks.now c.args.from o) (sym is)
          (next_more p c.args.marks.now c.args.from place (subst (λ o. IsNextWithin p c.args.marks.now c.args.from o) at held.next));
      rests = λ r. subst (λ o. RestsWithin p (set marks place true) o) (sym is) (rests_more p marks place lt (subst (λ o. RestsWithin p marks o) at (held.rests r)));
    }
