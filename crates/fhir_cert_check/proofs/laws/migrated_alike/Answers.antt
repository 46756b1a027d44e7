use Rattle.std.proofs.Common.{refl, ap}
use Rattle.fhir_schema.specs.Schemas.{schema_of}
use Rattle.fhir_certificate.specs.Reading.{reading}
use Rattle.fhir_cert_check.specs.Checking.{answer_of}
use Rattle.fhir_cert_check.proofs.Alike.{read_alike}
use Rattle.fhir_cert_check.proofs.laws.migrated_alike.Goals as goal

pub returns : goal.returns
returns c p bytes text sound once is =
    let s = schema_of p in
    ap (λ r. answer_of r s)
    (read_alike s bytes text (reading s bytes) refl is (λ certificate read. c.migrated_back.ensures p bytes text certificate sound once read is))
