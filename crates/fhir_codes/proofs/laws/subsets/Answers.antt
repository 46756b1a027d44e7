use Rattle.std.specs.FinSet as set
use Rattle.fhir_codes.proofs.Members.{concept_total}
use Rattle.fhir_codes.proofs.laws.subsets.Goals as goal

pub returns : goal.returns
returns c a b = (set.is_subset-contains concept_total a b, set.contains-is_subset concept_total a b)
