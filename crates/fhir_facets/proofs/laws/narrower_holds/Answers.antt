use Rattle.fhir_facets.proofs.Chains.{le_chained, ge_chained}
use Rattle.fhir_facets.proofs.Keeping.{fixed_kept, pattern_kept, fitted_kept}
use Rattle.fhir_facets.proofs.KeptBounds.{range_kept}
use Rattle.fhir_facets.proofs.KeptTargets.{targets_kept}
use Rattle.fhir_facets.proofs.KeptBindings.{binding_kept}
use Rattle.fhir_facets.proofs.KeptOrder.{order_kept}
use Rattle.fhir_facets.proofs.laws.narrower_holds.Goals as goal

pub returns-clause-fixed : goal.returns-clause-fixed
returns-clause-fixed c = fixed_kept c.equivalence.ensures.transitive c.fitting.ensures.transitive c.fitting.ensures.of_equals

pub returns-clause-pattern : goal.returns-clause-pattern
returns-clause-pattern c = pattern_kept c.equivalence.ensures.transitive c.fitting.ensures.transitive c.fitting.ensures.of_equals

pub returns-clause-fitted : goal.returns-clause-fitted
returns-clause-fitted c = fitted_kept c.equivalence.ensures.transitive c.fitting.ensures.transitive c.fitting.ensures.of_equals

pub returns-clause-range : goal.returns-clause-range
returns-clause-range c =
    range_kept (le_chained c.order_of_values.ensures.total c.order_of_moments.ensures) (ge_chained c.order_of_values.ensures.total c.order_of_moments.ensures)

pub returns-clause-targets : goal.returns-clause-targets
returns-clause-targets c s m = targets_kept s m (c.covering_codes.ensures.transitive s)

pub returns-clause-binding : goal.returns-clause-binding
returns-clause-binding c s m own base x fair =
    binding_kept (λ a b. (c.subsets.ensures a b).0) c.codes_of_subset.ensures s m fair x own base

pub returns-clause-order : goal.returns-clause-order
returns-clause-order c s n m names narrower each own = order_kept s n m names each own narrower
