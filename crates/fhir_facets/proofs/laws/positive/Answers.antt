use Rattle.fhir_facets.proofs.KeptBounds.{range_more}
use Rattle.fhir_facets.proofs.KeptBindings.{binding_more}
use Rattle.fhir_facets.proofs.KeptTargets.{targets_more}
use Rattle.fhir_facets.proofs.laws.positive.Goals as goal

pub returns-clause-range : goal.returns-clause-range
returns-clause-range c m larger r x more = range_more m larger more x r

pub returns-clause-targets : goal.returns-clause-targets
returns-clause-targets c s m larger e x more = targets_more s m larger more e x

pub returns-clause-binding : goal.returns-clause-binding
returns-clause-binding c m larger b x more = binding_more m larger more b x
