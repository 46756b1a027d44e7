use Rattle.fhir_schema.specs.Schemas.{schema_of}
use Rattle.fhir_cert_check.proofs.OfNodes.{asked_known}
use Rattle.fhir_cert_check.proofs.laws.asked_are_nodes.Goals as goal

pub returns : goal.returns
returns c d p q known asked = asked_known (schema_of d) (c.least_closed.ensures.closed d) (c.least_closed.ensures.placed d) p q known asked
