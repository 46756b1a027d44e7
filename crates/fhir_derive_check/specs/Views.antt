-- Outcomes as contracts see them.
use Rattle.std.specs.Prelude.{Option, None, Some}
use Rattle.fhir_certificate.specs.declared.pair.Pair.{Pair}
use Rattle.fhir_certificate.specs.Certificate.{CertificateValue}
use Rattle.fhir_cert_check.specs.Rule.{RuleName}
use Rattle.fhir_cert_check.specs.Views.{rule_name}
use Rattle.fhir_derive_check.specs.declared.outcome.Outcome.{Outcome}
use Rattle.fhir_derive_check.specs.declared.outcome.Outcome.TheVariants.{Derives, NoCertificate}

-- the certificate, if there is one
abbrev pub certificate_of : Outcome → Option CertificateValue
certificate_of (Derives c) = Some c
certificate_of (NoCertificate p rule) = None

-- the pair and the rule for which there is none
abbrev pub failing_of : Outcome → Option (Pair × RuleName)
failing_of (Derives c) = None
failing_of (NoCertificate p rule) = Some (p, rule_name rule)
