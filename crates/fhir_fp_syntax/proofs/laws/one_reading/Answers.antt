use Rattle.fhir_fp_syntax.proofs.Written.{one_expression}
use Rattle.fhir_fp_syntax.proofs.laws.one_reading.Goals as goal

pub returns : goal.returns
returns c = one_expression
