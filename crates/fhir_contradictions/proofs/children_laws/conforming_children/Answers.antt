use Rattle.fhir_contradictions.proofs.ConformingChildren.{element, in_slice}
use Rattle.fhir_contradictions.proofs.children_laws.conforming_children.Goals as goal

pub returns-clause-element : goal.returns-clause-element
returns-clause-element c s meaning around x y n h slot holding held among has = element s meaning around x y n h slot holding held among has

pub returns-clause-slice : goal.returns-clause-slice
returns-clause-slice c s meaning around x y n h slot slice holding held among has one belonging =
    in_slice s meaning around x y n h slot holding held among has slice one belonging
