-- What a question feeds a hasher: its words, each at once.
use Rattle.std.specs.Prelude.{◌≡◌, [], ◌∷◌, ◌++◌, IsTrue}
use Rattle.std.specs.Cmp.Rules.{hashing}
use Rattle.std.specs.Hash as fed
use Rattle.std.proofs.Common.{rules}
use Rattle.fhir_commands.specs.contracts.question.QuestionPartialEq.TheImpl.{eq-value}
use Rattle.fhir_commands.specs.declared.question.Question.{Question}
use Rattle.fhir_commands.specs.declared.question.Question.TheVariants.{Validate, Derive}
use Rattle.fhir_commands.specs.Commands.{CommandValue, validate, derive, question_seen}

abbrev pub hashed : CommandValue → fed.HashWrites
hashed (validate profile bytes) = fed.str profile ++ (bytes ∷ [])
hashed (derive derived base) = fed.str derived ++ fed.str base
hashed _ = []

-- equal questions feed the same
pub hashed_alike : (p q : Question) → IsTrue (eq-value.it p q) → hashed (question_seen p) ≡ hashed (question_seen q)
hashed_alike (Validate a b) (Validate c d) = search (hashing, rules) depth 9
hashed_alike (Validate a b) (Derive c d) = search (hashing, rules) depth 9
hashed_alike (Derive a b) (Validate c d) = search (hashing, rules) depth 9
hashed_alike (Derive a b) (Derive c d) = search (hashing, rules) depth 9
