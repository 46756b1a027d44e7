use Rattle.std.proofs.Common.{refl}
use Rattle.fhir_decimal.specs.Reading.{parts}
use Rattle.fhir_decimal.specs.Value.{value_of}
use Rattle.fhir_decimal.specs.Whole.{is_whole_value}
use Rattle.fhirpath_laws.proofs.decimals.whole_decimals.Goals as goal

pub returns : goal.returns
unfolding parts value_of is_whole_value
returns c = refl
