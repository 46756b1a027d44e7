-- The faults of a certificate's text: their numbers, and what each says of the bytes.
use Rattle.std.specs.Prelude.{◌≡◌, ◌<◌, ◌≤◌, Bool, true, false, None, is_some, length, IsTrue, codes}
use Rattle.fhir_json.specs.Tree.{Text}
use Rattle.fhir_schema.specs.Schemas.{SchemaValue}
use Rattle.fhir_certificate.specs.declared.fault.CertFault.{CertFault}
use Rattle.fhir_certificate.specs.declared.fault.CertFault.TheVariants.{WrongFormat, UnknownNode, TooManyPairs, NoMemory, OtherVersion}
use Rattle.fhir_certificate.specs.Format.{Written, Spells}
use Rattle.fhir_certificate.specs.Judging.{limit, certificate_of, has_versions}

-- the number that is printed
abbrev pub cert_number : CertFault → Text
cert_number WrongFormat = codes "C1"
cert_number UnknownNode = codes "C2"
cert_number TooManyPairs = codes "C3"
cert_number NoMemory = codes "C4"
cert_number OtherVersion = codes "C5"

-- the fault that says that memory ran out
abbrev pub is_no_memory : CertFault → Bool
is_no_memory WrongFormat = false
is_no_memory UnknownNode = false
is_no_memory TooManyPairs = false
is_no_memory NoMemory = true
is_no_memory OtherVersion = false

-- what a fault says of the bytes
abbrev pub Means : CertFault → SchemaValue → Text → Type 0
Means WrongFormat s bytes = (w : Written) → Spells bytes w → ⊥
Means UnknownNode s bytes = (w : Written) × Spells bytes w × (certificate_of s w ≡ None)
Means TooManyPairs s bytes = (w : Written) × Spells bytes w × IsTrue (is_some (certificate_of s w)) × (limit < length w.lines)
Means NoMemory s bytes = Unit {0}
Means OtherVersion s bytes =
    (w : Written) × Spells bytes w × IsTrue (is_some (certificate_of s w)) × (length w.lines ≤ limit) × (has_versions s w ≡ false)
