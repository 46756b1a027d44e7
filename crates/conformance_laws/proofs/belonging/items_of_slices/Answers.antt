use Rattle.fhir_schema.specs.Schemas.{slices}
use Rattle.fhir_slicing.specs.Belonging.{criterion_holds, is_in}
use Rattle.conformance_laws.proofs.Found.{one_of, each_of, one_name}
use Rattle.conformance_laws.proofs.belonging.items_of_slices.Goals as goal

pub returns-clause-belonging : goal.returns-clause-belonging
returns-clause-belonging c s cs x = each_of (criterion_holds s x) cs

pub returns-clause-apart : goal.returns-clause-apart
returns-clause-apart c s n x = one_name s n x

pub returns-clause-some : goal.returns-clause-some
returns-clause-some c s n x = one_of (is_in s n x) (slices s n)
