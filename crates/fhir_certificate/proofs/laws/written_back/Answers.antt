use Rattle.fhir_certificate.proofs.WrittenBack.{stands_back, reads_back}
use Rattle.fhir_certificate.proofs.laws.written_back.Goals as goal

pub returns-clause-stands : goal.returns-clause-stands
returns-clause-stands c = stands_back

pub returns-clause-read : goal.returns-clause-read
returns-clause-read c = reads_back
