-- The text in format 2 of the certificate that a text of either format is.
use Rattle.std.specs.Prelude.{Result, Ok, Err}
use Rattle.fhir_json.specs.Tree.{Text}
use Rattle.fhir_schema.specs.Schemas.{SchemaValue}
use Rattle.fhir_certificate.specs.declared.fault.CertFault.{CertFault}
use Rattle.fhir_certificate.specs.Certificate.{CertificateValue}
use Rattle.fhir_certificate.specs.Format.{text_of}
use Rattle.fhir_certificate.specs.Reading.{reading}
use Rattle.fhir_certificate.specs.Writing.{written_by}

-- what is written of a certificate that was read, or why none was
abbrev pub written_again : SchemaValue → Result CertificateValue CertFault → Result Text CertFault
written_again s (Ok c) = Ok (text_of (written_by s c))
written_again s (Err fault) = Err fault

abbrev pub migrated : SchemaValue → Text → Result Text CertFault
migrated s bytes = written_again s (reading s bytes)
