use Rattle.fhir_unread.proofs.InsideClean.{inside_clean}
use Rattle.fhir_unread.proofs.InsideTexts.{text_inside}
use Rattle.fhir_unread.proofs.laws.insides_shown.Goals as goal

pub returns-clause-text : goal.returns-clause-text
returns-clause-text c = λ text utf8. text_inside text utf8

pub returns-clause-clean : goal.returns-clause-clean
returns-clause-clean c = λ text utf8. inside_clean text utf8
