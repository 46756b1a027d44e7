-- The values of the program, without where they lie in memory.
use Rattle.std.specs.Prelude.{List, map}
use Rattle.fhir_decimal.specs.Numbers.{number_seen}
use Rattle.fhir_prims.specs.Views.{fields_seen}
use Rattle.fhir_instance.specs.View.{item_of}
use Rattle.fhir_fp_values.specs.declared.value.Value.{Value}
use Rattle.fhir_fp_values.specs.declared.value.Value.TheVariants as values
use Rattle.fhir_fp_values.specs.declared.system_value.SystemValue.{SystemValue}
use Rattle.fhir_fp_values.specs.declared.system_value.SystemValue.TheVariants as contents
use Rattle.fhir_fp_values.specs.Values.{boolean_of, number_of, string_of, moment_of, time_of}
use Rattle.fhir_fp_values.specs.Values.{SystemValue as Said}
use Rattle.fhir_fp_values.specs.Values.{Plain, node, truth, number, text}

abbrev pub plain_of : Value → Plain
plain_of (values.Node x) = node (item_of x.now)
plain_of (values.Truth b) = truth b
plain_of (values.Number n) = number (number_seen n)
plain_of (values.Text s) = text s.now

abbrev pub plains_of : List Value → List Plain
plains_of vs = map plain_of vs

abbrev pub system_value_seen : SystemValue → Said
system_value_seen (contents.Boolean b) = boolean_of b
system_value_seen (contents.Number n) = number_of (number_seen n)
system_value_seen (contents.Text s) = string_of s.now
system_value_seen (contents.Moment m) = moment_of (fields_seen m)
system_value_seen (contents.Time m) = time_of (fields_seen m)
