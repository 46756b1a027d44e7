-- What is reported of a folder and a certificate.
use Rattle.std.specs.Prelude.{Option, None, Some}
use Rattle.fhir_json.specs.Tree.{Text}
use Rattle.fhir_words.specs.declared.request.Manner.{Manner}
use Rattle.fhir_findings.specs.Selecting.{SelectionValue}
use Rattle.fhir_report.specs.Faultless.{CertificateValue, IsRightBy}
use Rattle.fhir_report.specs.Report.{IsReport}
use Rattle.fhir_answers.specs.Session.{SessionValue, schema_in}

-- The certificate that is asked about, if one is, with the bytes of its file, the second; none at all where that can't be read.
abbrev pub asked : Option Text → Option Text → Option (Option CertificateValue)
asked None file = Some None
asked (Some name) None = None
asked (Some name) (Some bytes) = Some (Some (name, bytes))

-- nothing is wrong with the files, with the definitions that are selected, and with the certificate, if there is one
abbrev pub IsAllRight : SelectionValue → SessionValue → Option CertificateValue → Type 0
IsAllRight selection s certificate = IsRightBy selection (schema_in s) s.survey certificate

abbrev pub IsReportOf : Manner → SelectionValue → SessionValue → Option CertificateValue → Text → Type 0
IsReportOf manner selection s certificate text = IsReport manner s.files selection (schema_in s) s.survey s.lacking certificate text
