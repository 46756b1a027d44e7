use Rattle.fhir_matching.proofs.Fits.{fits-refl, fits-trans, equal-fits, equal-values, equal-patterns}
use Rattle.fhir_matching.proofs.patterns.fitting.Goals as goal

pub returns-clause-reflexive : goal.returns-clause-reflexive
returns-clause-reflexive c = fits-refl

pub returns-clause-transitive : goal.returns-clause-transitive
returns-clause-transitive c = fits-trans

pub returns-clause-of_equals : goal.returns-clause-of_equals
returns-clause-of_equals c = equal-fits

pub returns-clause-equal_values : goal.returns-clause-equal_values
returns-clause-equal_values c = equal-values

pub returns-clause-equal_patterns : goal.returns-clause-equal_patterns
returns-clause-equal_patterns c = equal-patterns
