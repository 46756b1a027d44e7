use Rattle.fhir_gather.proofs.Keeping.{one_more_kept}
use Rattle.fhir_gather.proofs.Packaged.{kind_package, first_of_all}
use Rattle.fhir_gather.specs.Gathering.{kept}
use Rattle.fhir_gather.proofs.laws.first_kept.Goals as goal

pub returns-clause-first : goal.returns-clause-first
returns-clause-first c = λ ts kind url. first_of_all kind url ts

pub returns-clause-in_order : goal.returns-clause-in_order
returns-clause-in_order c = λ ts kind. kind_package kind (kept ts)

pub returns-clause-one_more : goal.returns-clause-one_more
returns-clause-one_more c = one_more_kept
