use Rattle.std.proofs.Common.{ap, ◌∙◌}
use Rattle.fhir_inheritance.specs.Elements.{find}
use Rattle.fhir_inheritance.specs.Laying.{all_slices}
use Rattle.snapshot_laws.proofs.Itself.{own_id, laid_at, made_of_base}
use Rattle.snapshot_laws.proofs.Said.{holds, inherits_so}
use Rattle.snapshot_laws.proofs.differentials.differentials_hold.Goals as goal

pub returns-clause-said : goal.returns-clause-said
returns-clause-said c = λ p id url s d n plain is isnt found at.
    let l = laid_at p id url s n plain is isnt at in
    holds c.constraints_stay.ensures.there s.elements l.slices n.element l.inherited d (ap (find s.elements) l.itself ∙ found) l.laid_is

pub returns-clause-inherited : goal.returns-clause-inherited
returns-clause-inherited c = λ p id url base s d n m plain is isnt rests found below at.
    let made = made_of_base p c.one_answer.ensures.one id url base s n m plain is isnt rests below at in
    inherits_so s.elements (all_slices s.elements m.element.id m.slices) n.element m.element d
    (ap (find s.elements) (own_id p id base m plain below) ∙ found) made.element_is
