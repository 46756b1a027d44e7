use Rattle.fhir_asking.proofs.Meaning.{empty_holds, holds_has}
use Rattle.fhir_asking.proofs.laws.tables_hold.Goals as goal

pub returns-clause-empty : goal.returns-clause-empty
returns-clause-empty g c = empty_holds

pub returns-clause-answers : goal.returns-clause-answers
returns-clause-answers g c = holds_has
