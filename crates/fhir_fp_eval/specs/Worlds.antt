-- Where an expression is evaluated.
use Rattle.fhir_schema.specs.Schemas.{SchemaValue}
use Rattle.fhir_instance.specs.Items.{Item}

-- where an expression is evaluated: the types, and what `%resource` and `%context` are
pub record World : Type 0 where
  pub schema : SchemaValue
  pub resource : Item
  pub context : Item
