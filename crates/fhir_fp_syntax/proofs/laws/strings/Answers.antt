use Rattle.fhir_fp_syntax.proofs.Escapes.{text_in_stands, text_in_again}
use Rattle.fhir_fp_syntax.proofs.laws.strings.Goals as goal

pub returns : goal.returns
returns c = λ v s. (text_in_stands v s, text_in_again v s)
