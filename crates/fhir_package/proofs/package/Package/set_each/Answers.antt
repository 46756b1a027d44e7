use Rattle.std.proofs.Common.{◌≡◌, true, ◌&&◌, sym, ap, ◌∙◌}
use Rattle.fhir_package.specs.Changing.{put_in, put_each, has}
use Rattle.fhir_package.specs.Keeping.{have_places}
use Rattle.fhir_package.proofs.Kept.{places_stay, first_has, others_have}
use Rattle.fhir_package.proofs.package.Package.set_each.Goals as goal

pub loop-definition-preserved : goal.loop-definition-preserved
loop-definition-preserved c = λ h.
    let d = c.in-Some.definition in
    let rest = c.next.new.self.rest.items in
    let p = c.loop-definition.self in
    let known = c.loop-definition.invariant h in
    let have : (has d.kind d.url p && have_places rest p) ≡ true = ap (λ ds. have_places ds p) (sym c.in-Some.ensures.steps.0) ∙ known.0 in
    let first : has d.kind d.url p ≡ true = first_has (has d.kind d.url p) (have_places rest p) have in
    let set : c.set.new.self ≡ put_in d p = c.set.ensures first in (
      ap (have_places rest) set ∙ places_stay d rest p first ∙ others_have (has d.kind d.url p) (have_places rest p) have,
      known.1 ∙ ap (λ ds. put_each ds p) c.in-Some.ensures.steps.0 ∙ ap (put_each rest) (sym set),
    )
