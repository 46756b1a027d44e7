use Rattle.fhir_schema.specs.Schemas.{slices}
use Rattle.fhir_slicing.specs.Belonging.{is_in}
use Rattle.fhir_slicing.proofs.Twos.{no_two}
use Rattle.further_laws.proofs.slices.items_in_two_slices.Goals as goal

pub returns : goal.returns
returns c s n x = no_two (is_in s n x) (slices s n)
