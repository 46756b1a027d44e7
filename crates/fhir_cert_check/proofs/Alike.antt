-- What is migrated is answered alike.
use Rattle.std.proofs.Common.{◌≡◌, sym, ◌∙◌}
use Rattle.std.specs.Prelude.{Result, Ok, Err}
use Rattle.fhir_json.specs.Tree.{Text}
use Rattle.fhir_schema.specs.Schemas.{SchemaValue}
use Rattle.fhir_certificate.specs.declared.fault.CertFault.{CertFault}
use Rattle.fhir_certificate.specs.Certificate.{CertificateValue}
use Rattle.fhir_certificate.specs.Migrating.{written_again}
use Rattle.fhir_certificate.specs.Reading.{reading}

-- what is migrated was read, and so is what it was migrated to
pub read_alike : (s : SchemaValue) (bytes text : Text) (r : Result CertificateValue CertFault) → reading s bytes ≡ r → written_again s r ≡ Ok text
    → ((c : CertificateValue) → reading s bytes ≡ Ok c → reading s text ≡ Ok c) → reading s bytes ≡ reading s text
read_alike s bytes text (Ok c) is written back = is ∙ sym (back c is)
read_alike s bytes text (Err fault) is written back = let no : Err fault ≡ Ok text = written in cc
