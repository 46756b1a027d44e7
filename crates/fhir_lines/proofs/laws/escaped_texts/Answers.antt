use Rattle.fhir_lines.proofs.Shown.{escaped_clean}
use Rattle.fhir_lines.proofs.laws.escaped_texts.Goals as goal

pub returns-clause-text : goal.returns-clause-text
returns-clause-text c = λ text is. (escaped_clean text is).0
