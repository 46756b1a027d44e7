use Rattle.fhir_cert_check.proofs.Promised.{promised}
use Rattle.fhir_cert_check.proofs.laws.certificates_include.Goals as goal

pub returns : goal.returns
returns c s cert is = promised s cert (c.inclusion.ensures s) is
