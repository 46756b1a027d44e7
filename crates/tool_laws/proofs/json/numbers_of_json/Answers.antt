use Rattle.std.proofs.Common.{refl}
use Rattle.fhir_json.specs.Number.{after_number}
use Rattle.tool_laws.proofs.json.numbers_of_json.Goals as goal

pub returns-clause-are : goal.returns-clause-are
unfolding after_number
returns-clause-are c = refl

pub returns-clause-none : goal.returns-clause-none
unfolding after_number
returns-clause-none c = refl
