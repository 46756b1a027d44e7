use Rattle.fhir_contradictions.proofs.NamesApart.{children_apart, slices_differ}
use Rattle.fhir_contradictions.proofs.children_laws.names_apart.Goals as goal

pub returns-clause-children : goal.returns-clause-children
returns-clause-children c p n known = children_apart p (c.least_closed.ensures.placed p) (c.least_closed.ensures.closed p) n known

pub returns-clause-slices : goal.returns-clause-slices
returns-clause-slices c p n known = slices_differ p (c.least_closed.ensures.placed p) (c.least_closed.ensures.closed p) n known
