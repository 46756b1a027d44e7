-- Words that the contracts of private functions alone cite: keys that are looked up.
use Rattle.std.specs.Prelude.{◌≡◌, List, is_some}
use Rattle.fhir_names.specs.Places.{Places}
use Rattle.fhir_reach.specs.Keys.{KeyValue, has_key}
use Rattle.fhir_reach.specs.Places.{place_of_key}

-- just these keys have places
abbrev pub PlacesKeys : Places → Places → List KeyValue → Type 0
PlacesKeys urls codes keys = (k : KeyValue) → is_some (place_of_key urls codes k) ≡ has_key keys k
