use Rattle.fhir_schema.specs.Schemas.{schema_of}
use Rattle.fhir_certificate.proofs.Migrated.{migrated_text, read_fits, read_few}
use Rattle.fhir_certificate.proofs.laws.migrated_back.Goals as goal

pub returns : goal.returns
returns c = λ p bytes text certificate sound once read migrated.
    let s = schema_of p in
    migrated_text s bytes text certificate read migrated
    (c.written_back_in_packages.ensures.read p certificate sound once (read_fits c.named_nodes.ensures s bytes certificate read) (read_few s bytes certificate read))
