-- A moment of the program as its fields, and texts that it has cut as their parts.
use Rattle.std.specs.Option.{option_map}
use Rattle.fhir_decimal.specs.Value.{value_of}
use Rattle.fhir_decimal.specs.Views.{parts_seen}
use Rattle.fhir_prims.specs.declared.moment.Moment.{Moment}
use Rattle.fhir_prims.specs.declared.cut.TimeText.{TimeText}
use Rattle.fhir_prims.specs.declared.cut.MomentText.{MomentText}
use Rattle.fhir_prims.specs.Order.{Fields}
use Rattle.fhir_prims.specs.Cut.{TimeParts, MomentParts}

abbrev pub fields_seen : Moment → Fields
fields_seen m = record {
  year = m.year;
  month = m.month;
  day = m.day;
  hour = m.hour;
  minute = m.minute;
  second = option_map (λ d. value_of (parts_seen d)) m.second;
}

abbrev pub time_seen : TimeText → TimeParts
time_seen t = record { clock = t.clock.now; fraction = t.fraction.now; zone = t.zone.now }

abbrev pub moment_seen : MomentText → MomentParts
moment_seen m = record { day = m.day.now; mark = m.mark; time = time_seen m.time }
