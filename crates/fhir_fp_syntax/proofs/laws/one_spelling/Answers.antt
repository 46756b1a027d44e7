use Rattle.fhir_fp_syntax.proofs.Written.{one_word_list}
use Rattle.fhir_fp_syntax.proofs.laws.one_spelling.Goals as goal

pub returns : goal.returns
returns c = one_word_list
