-- What contracts see of a walk along the names of a criterion.
use Rattle.std.specs.Prelude.{Bool, true}
use Rattle.fhir_forms.specs.Criteria.{Sought, fixed, pattern, present, absent, typed}
use Rattle.fhir_schema.specs.Schemas.{SchemaValue}
use Rattle.fhir_instance.specs.Items.{Item}
use Rattle.fhir_slicing.specs.Belonging.{is_value, has_pattern, is_typed}

-- the item decides it: it is one that is looked for, or any at all
abbrev pub decides : SchemaValue → Sought → Item → Bool
decides s (fixed value) x = is_value value x
decides s (pattern p) x = has_pattern p x
decides s present x = true
decides s absent x = true
decides s (typed codes) x = is_typed s codes x
