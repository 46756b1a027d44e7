-- What contracts see of a way that isn't shown.
use Rattle.std.specs.Prelude.{string_bytes}
use Rattle.std.specs.Option.{option_map}
use Rattle.fhir_compare.specs.Comparing.{Direction, new_in_old, old_in_new}
use Rattle.fhir_compare_lines.specs.declared.failing.Direction.{Direction as Towards}
use Rattle.fhir_compare_lines.specs.declared.failing.Direction.TheVariants as towards
use Rattle.fhir_compare_lines.specs.declared.failing.Why.{Why}
use Rattle.fhir_compare_lines.specs.declared.failing.Why.TheVariants as whys
use Rattle.fhir_compare_lines.specs.Telling.{WhyValue, why_fails, why_says}

abbrev pub direction_seen : Towards → Direction
direction_seen towards.NewInOld = new_in_old
direction_seen towards.OldInNew = old_in_new

abbrev pub why_seen : Why → WhyValue
why_seen (whys.Fails pair rule words resource) =
    why_fails (string_bytes pair) (string_bytes rule) (string_bytes words) (option_map string_bytes resource)
why_seen (whys.Says text) = why_says (string_bytes text)
