-- The numbers of misfits.
use Rattle.std.specs.Prelude.{codes}
use Rattle.fhir_json.specs.Tree.{Text}
use Rattle.fhir_instance.specs.declared.misfit.MisfitKind.{MisfitKind}
use Rattle.fhir_instance.specs.declared.misfit.MisfitKind.TheVariants.{UnknownProperty, UnwantedArray, MissingArray, Empty, WrongValue, Unparallel, UnknownType, NoMemory}

abbrev pub misfit_number : MisfitKind → Text
misfit_number UnknownProperty = codes "I1"
misfit_number UnwantedArray = codes "I2"
misfit_number MissingArray = codes "I3"
misfit_number Empty = codes "I4"
misfit_number WrongValue = codes "I5"
misfit_number Unparallel = codes "I6"
misfit_number UnknownType = codes "I7"
misfit_number NoMemory = codes "I8"
