use Rattle.std.proofs.Common.{◌≡◌, Result, Ok, Err, refl}
use Rattle.fhir_json.specs.Tree.{Text}
use Rattle.fhir_schema.specs.Schemas.{SchemaValue}
use Rattle.fhir_certificate.specs.declared.fault.CertFault.{CertFault}
use Rattle.fhir_certificate.specs.Certificate.{CertificateValue}
use Rattle.fhir_certificate.specs.Migrating.{written_again}
use Rattle.fhir_certificate.specs.Reading.{reading}
use Rattle.fhir_answers.proofs.migrate_reply.migrated_reply.Goals as goal

-- what is written again was read
read_so : (s : SchemaValue) (r : Result CertificateValue CertFault) (text : Text) → written_again s r ≡ Ok text → (c : CertificateValue) × (r ≡ Ok c)
read_so s (Ok c) text is = (c, refl)
read_so s (Err fault) text is = absurd cc

pub returns-in-Ok-clause-promised : goal.returns-in-Ok-clause-promised
returns-in-Ok-clause-promised c zero =
    read_so c.args.schema.now (reading c.args.schema.now c.args.bytes.now) c.in-Ok.out.items c.in-Ok.ensures
