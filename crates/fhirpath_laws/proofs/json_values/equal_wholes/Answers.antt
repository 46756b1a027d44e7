use Rattle.fhirpath_laws.proofs.Wholes.{in_turn, by_properties, equal_no_array, equal_no_object}
use Rattle.fhirpath_laws.proofs.json_values.equal_wholes.Goals as goal

pub returns-clause-arrays : goal.returns-clause-arrays
returns-clause-arrays c = in_turn

pub returns-clause-objects : goal.returns-clause-objects
returns-clause-objects c = by_properties

pub returns-clause-no_array : goal.returns-clause-no_array
returns-clause-no_array c = equal_no_array

pub returns-clause-no_object : goal.returns-clause-no_object
returns-clause-no_object c = equal_no_object
