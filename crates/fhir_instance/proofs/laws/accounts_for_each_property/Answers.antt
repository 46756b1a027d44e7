use Rattle.fhir_instance.proofs.NamedItems.{accounts_for_each_property}
use Rattle.fhir_instance.proofs.laws.accounts_for_each_property.Goals as goal

pub returns : goal.returns
returns c s frame fields kids is = accounts_for_each_property s frame fields kids is
