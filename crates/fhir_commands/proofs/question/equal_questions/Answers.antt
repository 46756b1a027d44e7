use Rattle.std.proofs.Common.{◌≡◌, rules}
use Rattle.fhir_commands.specs.contracts.question.QuestionPartialEq.TheImpl.{eq-value}
use Rattle.fhir_commands.specs.declared.question.Question.{Question}
use Rattle.fhir_commands.specs.declared.question.Question.TheVariants.{Validate, Derive}
use Rattle.fhir_commands.specs.Commands.{asks_same, question_seen}
use Rattle.fhir_commands.proofs.question.equal_questions.Goals as goal

equal : (p q : Question) → eq-value.it p q ≡ asks_same (question_seen p) (question_seen q)
equal (Validate a b) (Validate c d) = search rules
equal (Validate a b) (Derive c d) = search rules
equal (Derive a b) (Validate c d) = search rules
equal (Derive a b) (Derive c d) = search rules

pub returns : goal.returns
returns c = equal
