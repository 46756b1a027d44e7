use Rattle.fhir_codes.proofs.CodesKept.{code_kept}
use Rattle.fhir_codes.proofs.laws.codes_of_subset.Goals as goal

pub returns : goal.returns
returns c a b code = code_kept a b code
