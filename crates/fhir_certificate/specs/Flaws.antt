-- What is wrong with the lines of a certificate's text, and which fault that is.
use Rattle.std.specs.Prelude.{List, Bool, true, false, Option, None, Some, Result, Ok, Err, if◌then◌else◌}
use Rattle.std.specs.List.{list_all, list_any}
use Rattle.fhir_json.specs.Bytes.{is_empty}
use Rattle.fhir_certificate.specs.declared.fault.CertFault.{CertFault}
use Rattle.fhir_certificate.specs.declared.fault.CertFault.TheVariants.{WrongFormat, UnknownNode, TooManyPairs, NoMemory, OtherVersion}
use Rattle.fhir_certificate.specs.declared.flaw.Flaw.{Flaw}
use Rattle.fhir_certificate.specs.declared.flaw.FlawKind.{FlawKind}
use Rattle.fhir_certificate.specs.declared.flaw.FlawKind.TheVariants.{Expected, Definition, Element, Version}
use Rattle.fhir_certificate.specs.Certificate.{CertificateValue}

-- the fault that a line with such a flaw is
abbrev pub flaw_fault : FlawKind → CertFault
flaw_fault (Expected part) = WrongFormat
flaw_fault (Definition url) = UnknownNode
flaw_fault (Element url id) = UnknownNode
flaw_fault (Version url written own) = OtherVersion

abbrev pub is_of_format : FlawKind → Bool
is_of_format (Expected part) = true
is_of_format (Definition url) = false
is_of_format (Element url id) = false
is_of_format (Version url written own) = false

abbrev pub is_of_version : FlawKind → Bool
is_of_version (Expected part) = false
is_of_version (Definition url) = false
is_of_version (Element url id) = false
is_of_version (Version url written own) = true

abbrev pub any_of_format : List Flaw → Bool
any_of_format flaws = list_any (λ flaw. is_of_format flaw.kind) flaws

abbrev pub are_of_versions : List Flaw → Bool
are_of_versions flaws = list_all (λ flaw. is_of_version flaw.kind) flaws

-- the fault that a text with these flaws has: that of the format before all others, and that of the versions behind them
abbrev pub fault_of_flaws : List Flaw → Option CertFault
fault_of_flaws flaws =
    if any_of_format flaws then Some WrongFormat
    else (if is_empty flaws then None else (if are_of_versions flaws then Some OtherVersion else Some UnknownNode))

-- the fault of what was read, if a line of it is to blame: that there are too many is no single line's
abbrev pub fault_of_lines : Result CertificateValue CertFault → Option CertFault
fault_of_lines (Ok c) = None
fault_of_lines (Err WrongFormat) = Some WrongFormat
fault_of_lines (Err UnknownNode) = Some UnknownNode
fault_of_lines (Err TooManyPairs) = None
fault_of_lines (Err NoMemory) = None
fault_of_lines (Err OtherVersion) = Some OtherVersion

-- whether a line is to blame for another version
abbrev pub is_other : Option CertFault → Bool
is_other None = false
is_other (Some WrongFormat) = false
is_other (Some UnknownNode) = false
is_other (Some TooManyPairs) = false
is_other (Some NoMemory) = false
is_other (Some OtherVersion) = true
