use Rattle.fhir_fp_eval.proofs.Faulty.{begins_by_type}
use Rattle.fhir_fp_eval.proofs.laws.paths_by_type.Goals as goal

pub returns : goal.returns
returns c = begins_by_type
