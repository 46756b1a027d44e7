use Rattle.fhir_beside.proofs.NewDefinitions.{places_new, canonicals_new, types_new}
use Rattle.fhir_beside.proofs.laws.definitions_stay.Goals as goal

pub returns : goal.returns
returns c = record { places = places_new; canonicals = canonicals_new; types = types_new }
