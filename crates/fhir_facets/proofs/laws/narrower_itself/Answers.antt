use Rattle.fhir_facets.proofs.Itself.{cardinality_itself, binding_itself, targets_itself}
use Rattle.fhir_facets.proofs.laws.narrower_itself.Goals as goal

pub returns-clause-fixed : goal.returns-clause-fixed
returns-clause-fixed c = c.equivalence.ensures.reflexive

pub returns-clause-pattern : goal.returns-clause-pattern
returns-clause-pattern c = c.fitting.ensures.reflexive

pub returns-clause-cardinality : goal.returns-clause-cardinality
returns-clause-cardinality c = cardinality_itself

pub returns-clause-binding : goal.returns-clause-binding
returns-clause-binding c = binding_itself

pub returns-clause-targets : goal.returns-clause-targets
returns-clause-targets c = targets_itself
