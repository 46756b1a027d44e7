use Rattle.fhir_findings.specs.Carrying.{text_of}
use Rattle.fhir_findings.proofs.Counted.{told_by_one, total, none_empty}
use Rattle.fhir_findings.proofs.laws.tellings.Goals as goal

pub returns-clause-one : goal.returns-clause-one
returns-clause-one c = λ carriers carrier. told_by_one text_of carriers carrier

pub returns-clause-total : goal.returns-clause-total
returns-clause-total c = λ carriers. total text_of carriers

pub returns-clause-some : goal.returns-clause-some
returns-clause-some c = λ carriers. none_empty text_of carriers
