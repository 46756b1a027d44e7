-- Why nothing is derived: a definition isn't there, or can't be used.
use Rattle.std.specs.Prelude.{Bool, true, false, ◌&&◌, is_none, is_some, Option, None, Some, if◌then◌else◌}
use Rattle.fhir_json.specs.Tree.{Text}
use Rattle.fhir_schema.specs.Schemas.{SchemaValue, root, unusable}
use Rattle.fhir_derive_check.specs.declared.fault.Side.{Side}
use Rattle.fhir_derive_check.specs.declared.fault.Side.TheVariants.{Derived, Base}
use Rattle.fhir_derive_check.specs.declared.fault.DeriveFault.{DeriveFault}
use Rattle.fhir_derive_check.specs.declared.fault.DeriveFault.TheVariants.{Missing, Unusable, NoMemory}

-- no definition of the url is there
abbrev pub is_missing : SchemaValue → Text → Bool
is_missing s url = is_none (root s url) && is_none (unusable s url)

abbrev pub is_unusable : SchemaValue → Text → Bool
is_unusable s url = is_some (unusable s url)

-- the first of the two that passes a test
abbrev pub first_side : (Text → Bool) → Text → Text → Option Side
first_side test derived base = if test derived then Some Derived else (if test base then Some Base else None)

-- that one is missing comes before that one can't be used
abbrev pub refusal : Option Side → Option Side → Option DeriveFault
refusal (Some side) unusable = Some (Missing side)
refusal None (Some side) = Some (Unusable side)
refusal None None = None

abbrev pub derive_refusal : SchemaValue → Text → Text → Option DeriveFault
derive_refusal s derived base = refusal (first_side (is_missing s) derived base) (first_side (is_unusable s) derived base)

abbrev pub is_no_memory : DeriveFault → Bool
is_no_memory (Missing side) = false
is_no_memory (Unusable side) = false
is_no_memory NoMemory = true
