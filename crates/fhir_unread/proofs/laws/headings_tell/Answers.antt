use Rattle.std.proofs.Common.{refl}
use Rattle.std.specs.Prelude.{codes}
use Rattle.fhir_unread.proofs.HeadingTells.{key_first, sentence_within, lacks_within}
use Rattle.fhir_unread.proofs.laws.headings_tell.Goals as goal

pub returns-clause-key : goal.returns-clause-key
returns-clause-key c = λ carrier sentence key count is. key_first carrier sentence key count is

pub returns-clause-sentence : goal.returns-clause-sentence
returns-clause-sentence c = λ carrier sentence count. sentence_within carrier sentence count

pub returns-clause-lacks : goal.returns-clause-lacks
returns-clause-lacks c = λ carrier sentence count is. lacks_within carrier sentence count is

pub returns-clause-saying : goal.returns-clause-saying
returns-clause-saying c = λ y. (codes ": ", refl)
