use Rattle.fhirpath_laws.proofs.Scalars.{only_text, that_text, only_number, that_number, only_flag, that_flag, only_null, that_null}
use Rattle.fhirpath_laws.proofs.json_values.patterns_of_scalars.Goals as goal

pub returns-clause-texts : goal.returns-clause-texts
returns-clause-texts c s t = (only_text s t, that_text s t)

pub returns-clause-numbers : goal.returns-clause-numbers
returns-clause-numbers c n t = (only_number n t, that_number n t)

pub returns-clause-flags : goal.returns-clause-flags
returns-clause-flags c b t = (only_flag b t, that_flag b t)

pub returns-clause-nulls : goal.returns-clause-nulls
returns-clause-nulls c t = (only_null t, that_null t)
