use Rattle.answer_laws.proofs.Endings.{errors}
use Rattle.answer_laws.proofs.programs.statuses_of_words.Goals as goal

pub returns-clause-usage : goal.returns-clause-usage
returns-clause-usage c read files reply is = is

pub returns-clause-memory : goal.returns-clause-memory
returns-clause-memory c read files reply is = is

pub returns-clause-errors : goal.returns-clause-errors
returns-clause-errors c asked read files reply is told = errors files reply told asked read is
