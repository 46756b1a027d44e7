use Rattle.fhir_schema.specs.Schemas.{schema_of}
use Rattle.fhir_contradictions.proofs.UsableNodes.{known_root, known_below}
use Rattle.fhir_contradictions.proofs.children_laws.usable_nodes.Goals as goal

pub returns-clause-root : goal.returns-clause-root
returns-clause-root c s code n is = known_root s code n is

pub returns-clause-below : goal.returns-clause-below
returns-clause-below c p by inside n name known is =
    known_below (schema_of p) (c.least_closed.ensures.placed p) (c.least_closed.ensures.closed p) by inside n name known is
