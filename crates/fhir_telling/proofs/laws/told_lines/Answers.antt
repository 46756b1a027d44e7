use Rattle.fhir_telling.proofs.Said as said
use Rattle.fhir_telling.proofs.laws.told_lines.Goals as goal

pub returns-clause-always : goal.returns-clause-always
returns-clause-always c = said.always

pub returns-clause-given : goal.returns-clause-given
returns-clause-given c = said.given

pub returns-clause-never : goal.returns-clause-never
returns-clause-never c = said.never
