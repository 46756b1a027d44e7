use Rattle.std.proofs.Common.{ap, ◌∙◌}
use Rattle.fhir_inheritance.specs.Elements.{find, slices_under}
use Rattle.fhir_inheritance.specs.Laying.{all_slices}
use Rattle.snapshot_laws.proofs.Itself.{own_id, made_of_base}
use Rattle.snapshot_laws.proofs.Said.{slicing_stays, others_added}
use Rattle.snapshot_laws.proofs.differentials.slicings_stay.Goals as goal

pub returns-clause-stay : goal.returns-clause-stay
returns-clause-stay c = λ p id url base s n m g plain is isnt rests below at none kept.
    let made = made_of_base p c.one_answer.ensures.one id url base s n m plain is isnt rests below at in
    slicing_stays s.elements (all_slices s.elements m.element.id m.slices) n.element m.element g
    (ap (find s.elements) (own_id p id base m plain below) ∙ none) made.element_is kept

pub returns-clause-slices : goal.returns-clause-slices
returns-clause-slices c = λ p id url base s n m plain is isnt rests below at.
    let made = made_of_base p c.one_answer.ensures.one id url base s n m plain is isnt rests below at in
    let more = others_added m.slices (slices_under s.elements m.element.id) in
    (more.0, made.slices_are ∙ more.1)
