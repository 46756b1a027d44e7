use Rattle.std.proofs.Common.{ap, ◌∙◌}
use Rattle.fhir_inheritance.specs.Elements.{find}
use Rattle.fhir_inheritance.specs.Laying.{all_slices}
use Rattle.fhir_inheritance.specs.Inheriting.{asking}
use Rattle.snapshot_laws.proofs.Itself.{own_id}
use Rattle.snapshot_laws.proofs.Coming.{base_element, laid_constraints, laid_untouched}
use Rattle.snapshot_laws.proofs.snapshots.base_elements_stay.Goals as goal

pub returns-clause-constraints : goal.returns-clause-constraints
returns-clause-constraints c = λ p id url base s n m plain is isnt base_is below at.
    laid_constraints c.constraints_stay.ensures.stay s.elements (all_slices s.elements m.element.id m.slices) n.element m.element
    (base_element p c.one_answer.ensures.one (λ name thing. (c.answers_come_of_answers.ensures (asking p) name thing).0) id url base s n m plain is isnt base_is below at)

pub returns-clause-untouched : goal.returns-clause-untouched
returns-clause-untouched c = λ p id url base s n m plain is isnt base_is below at none.
    laid_untouched s.elements (all_slices s.elements m.element.id m.slices) n.element m.element (ap (find s.elements) (own_id p id base m plain below) ∙ none)
    (base_element p c.one_answer.ensures.one (λ name thing. (c.answers_come_of_answers.ensures (asking p) name thing).0) id url base s n m plain is isnt base_is below at)
