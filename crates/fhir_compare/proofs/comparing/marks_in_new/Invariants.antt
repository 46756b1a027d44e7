use Rattle.std.proofs.Common.{◌≡◌, take}
use Rattle.fhir_compare.specs.Comparing.{old_in_new}
use Rattle.fhir_compare.specs.Owns.{all_fail}
use Rattle.fhir_compare.specs.Views.{all_owns}
use Rattle.fhir_compare.proofs.comparing.marks_in_new.Given as goal

abbrev pub invariant-loop-own : goal.invariant-loop-own
invariant-loop-own l = l.marks.items ≡ all_fail old_in_new (all_owns (take l.own-index l.all))
