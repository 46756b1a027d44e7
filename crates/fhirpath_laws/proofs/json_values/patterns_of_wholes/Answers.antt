use Rattle.fhirpath_laws.proofs.Wholes.{each_fits, has_each, fits_no_array, fits_no_object}
use Rattle.fhirpath_laws.proofs.json_values.patterns_of_wholes.Goals as goal

pub returns-clause-arrays : goal.returns-clause-arrays
returns-clause-arrays c ts ps = each_fits ps ts

pub returns-clause-objects : goal.returns-clause-objects
returns-clause-objects c ms ps = has_each ps ms

pub returns-clause-no_array : goal.returns-clause-no_array
returns-clause-no_array c = fits_no_array

pub returns-clause-no_object : goal.returns-clause-no_object
returns-clause-no_object c = fits_no_object
