use Rattle.answer_laws.proofs.Compared.{broken_readers, broken_writers, least_part, whole_part, status_of_parts}
use Rattle.answer_laws.proofs.comparisons.parts_of_versions.Goals as goal

pub returns-clause-readers : goal.returns-clause-readers
returns-clause-readers c n o = broken_readers n o

pub returns-clause-writers : goal.returns-clause-writers
returns-clause-writers c n o = broken_writers n o

pub returns-clause-least : goal.returns-clause-least
returns-clause-least c audience n o = least_part audience n o

pub returns-clause-whole : goal.returns-clause-whole
returns-clause-whole c audience said = whole_part audience said

pub returns-clause-status : goal.returns-clause-status
returns-clause-status c audience said = status_of_parts audience said
