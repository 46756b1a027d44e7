use Rattle.fhir_archives.proofs.Told.{unmet_told, nameless_told, noted_true}
use Rattle.fhir_archives.proofs.laws.telling.Goals as goal

pub returns-clause-unmet : goal.returns-clause-unmet
returns-clause-unmet c = unmet_told

pub returns-clause-nameless : goal.returns-clause-nameless
returns-clause-nameless c = nameless_told

pub returns-clause-only : goal.returns-clause-only
returns-clause-only c = noted_true
