use Rattle.fhir_number_keys.proofs.Signed.{keys_right}
use Rattle.fhir_number_keys.proofs.laws.keys_of_values.Goals as goal

pub returns : goal.returns
returns c = keys_right
