use Rattle.fhir_overlay.proofs.Reading.{read_writable, read_bounds}
use Rattle.fhir_overlay.proofs.laws.of_elements.Goals as goal

pub returns-clause-writable : goal.returns-clause-writable
returns-clause-writable c = read_writable

pub returns-clause-bounds : goal.returns-clause-bounds
returns-clause-bounds c = read_bounds
