use Rattle.fhir_unread.proofs.WordsTold.{sentence_told}
use Rattle.fhir_unread.proofs.laws.sentences_told.Goals as goal

pub returns : goal.returns
returns c = λ p carrier u human is e. sentence_told p carrier human u is e
