use Rattle.fhir_package.proofs.Surveyings.{all_unreadable, first_unreadable, survey_packs}
use Rattle.fhir_package.proofs.laws.surveys.Goals as goal

pub returns-clause-packed : goal.returns-clause-packed
returns-clause-packed c = survey_packs

pub returns-clause-unreadable : goal.returns-clause-unreadable
returns-clause-unreadable c = all_unreadable

pub returns-clause-first : goal.returns-clause-first
returns-clause-first c = first_unreadable
