use Rattle.fhir_overlay.proofs.Laying.{laid_writable, sliced_writable}
use Rattle.fhir_overlay.proofs.laws.laid_elements.Goals as goal

pub returns-clause-laid : goal.returns-clause-laid
returns-clause-laid c = laid_writable

pub returns-clause-sliced : goal.returns-clause-sliced
returns-clause-sliced c = sliced_writable
