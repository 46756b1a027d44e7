use Rattle.fhirpath_laws.proofs.KindsInJson.{flags_alone, numbers_alone, texts_alone}
use Rattle.fhirpath_laws.proofs.primitives.kinds_in_json.Goals as goal

pub returns-clause-flags : goal.returns-clause-flags
returns-clause-flags c = flags_alone

pub returns-clause-numbers : goal.returns-clause-numbers
returns-clause-numbers c = numbers_alone

pub returns-clause-texts : goal.returns-clause-texts
returns-clause-texts c = texts_alone
