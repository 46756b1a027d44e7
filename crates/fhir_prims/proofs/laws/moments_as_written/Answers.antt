use Rattle.fhir_prims.proofs.Once.{written_once}
use Rattle.fhir_prims.proofs.Written.{as_written, every}
use Rattle.fhir_prims.proofs.laws.moments_as_written.Goals as goal

pub returns-clause-said : goal.returns-clause-said
returns-clause-said c = as_written

pub returns-clause-every : goal.returns-clause-every
returns-clause-every c = every

pub returns-clause-one : goal.returns-clause-one
returns-clause-one c = written_once
