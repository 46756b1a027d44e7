use Rattle.fhir_fp_syntax.proofs.Written.{written, written_again}
use Rattle.fhir_fp_syntax.proofs.laws.grammar.Goals as goal

pub returns : goal.returns
returns c = λ s e. (written s e, written_again s e)
