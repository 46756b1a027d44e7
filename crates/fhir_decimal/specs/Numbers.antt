-- A number of the program, as its value.
use Rattle.fhir_decimal.specs.Value.{Value, value_of}
use Rattle.fhir_decimal.specs.Views.{parts_seen}
use Rattle.fhir_decimal.specs.Whole.{count}
use Rattle.fhir_decimal.specs.declared.number.Number.{Number}
use Rattle.fhir_decimal.specs.declared.number.Number.TheVariants.{Written, Count}

abbrev pub number_seen : Number → Value
number_seen (Written d) = value_of (parts_seen d)
number_seen (Count n) = count n
