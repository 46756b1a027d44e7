use Rattle.fhirpath_laws.proofs.Points.{turned, below}
use Rattle.fhirpath_laws.proofs.decimals.order_of_negatives.Goals as goal

pub returns-clause-turned : goal.returns-clause-turned
returns-clause-turned c = turned

pub returns-clause-below : goal.returns-clause-below
returns-clause-below c = below
