use Rattle.conformance_laws.proofs.Composed.{of_sets}
use Rattle.conformance_laws.proofs.value_sets.sets_alone.Goals as goal

pub returns : goal.returns
returns c p known t x is = of_sets p known x c.algebra.ensures.common t is
