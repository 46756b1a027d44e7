use Rattle.conformance_laws.proofs.Beneath.{children_are, slices_are}
use Rattle.conformance_laws.proofs.below.elements_below.Goals as goal

pub returns-clause-children : goal.returns-clause-children
returns-clause-children c s n d slot is below = children_are s n d is slot below (c.children_and_slices.ensures.children d.elements)

pub returns-clause-named_slices : goal.returns-clause-named_slices
returns-clause-named_slices c s n d slot is below = slices_are s n d is slot below (c.children_and_slices.ensures.slices d.elements)
