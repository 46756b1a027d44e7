use Rattle.fhir_certificate.proofs.Taken.{written_is}
use Rattle.fhir_certificate.proofs.Again.{written_again, spelled_once}
use Rattle.fhir_certificate.proofs.laws.format_agrees.Goals as goal

pub returns-clause-found : goal.returns-clause-found
returns-clause-found c = written_is

pub returns-clause-only : goal.returns-clause-only
returns-clause-only c = written_again

pub returns-clause-one : goal.returns-clause-one
returns-clause-one c = spelled_once
