use Rattle.fhir_schema.specs.Schemas.{schema_of}
use Rattle.fhir_claims.proofs.Loaded.{loaded_known}
use Rattle.fhir_claims.proofs.laws.loaded_claims_are_known.Goals as goal

pub returns : goal.returns
returns c p claim = loaded_known (schema_of p) (c.least_closed.ensures.placed p) claim
