use Rattle.fhirpath_laws.proofs.Ordered.{none_before, none_behind, several_before, several_behind}
use Rattle.fhirpath_laws.proofs.comparisons.comparisons_of_others.Goals as goal

pub returns-clause-left : goal.returns-clause-left
returns-clause-left c = none_before

pub returns-clause-right : goal.returns-clause-right
returns-clause-right c = none_behind

pub returns-clause-several_left : goal.returns-clause-several_left
returns-clause-several_left c = several_before

pub returns-clause-several_right : goal.returns-clause-several_right
returns-clause-several_right c = several_behind
