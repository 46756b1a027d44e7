use Rattle.std.proofs.Common.{[]}
use Rattle.fhir_overlay.specs.Overlay.{as_slice}
use Rattle.fhir_inheritance.specs.Laying.{all_slices, moved}
use Rattle.fhir_inheritance.specs.Inheriting.{asking}
use Rattle.snapshot_laws.proofs.Coming.{slice_element, laid_min}
use Rattle.snapshot_laws.proofs.snapshots.new_slices.Goals as goal

pub returns : goal.returns
returns c = λ p id whole url base s d n plain is isnt base_is none sliced found unsaid at.
    let made = slice_element p (λ name thing. (c.answers_come_of_answers.ensures (asking p) name thing).0) id whole url base s n plain is isnt base_is none sliced at in
    laid_min s.elements (all_slices s.elements id []) n.element (moved id (as_slice made.0.element)) d found unsaid made.1
