use Rattle.std.proofs.Common.{◌≡◌, ◌++◌, drop, map}
use Rattle.fhir_nodes.specs.Types.{names_resource}
use Rattle.fhir_summaries.specs.ResourceTypes.{of_resources}
use Rattle.fhir_summaries.proofs.resource_types.ResourceTypes.of.Given as goal

abbrev pub invariant-loop-definition : goal.invariant-loop-definition
invariant-loop-definition l =
    l.rows.items ++ map (λ d. names_resource l.table d.type) (drop l.definition-index l.definition-items) ≡ map (λ d. names_resource l.table d.type) l.definition-items
