use Rattle.fhir_schema.specs.Schemas.{schema_of}
use Rattle.fhir_contradictions.proofs.PartsTyped.{part_typed}
use Rattle.fhir_contradictions.proofs.regular_laws.regular_types.Goals as goal

pub returns : goal.returns
returns c p t x y typed part regular =
    part_typed (schema_of p) (c.least_closed.ensures.placed p) (c.least_closed.ensures.closed p) regular t x y typed part
